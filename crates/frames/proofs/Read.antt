-- Reading a frame that `write` made: the header comes back, and with it that all streams are whole.
use mathlib.Core.Path.{◌≡◌, refl, sym, ap, ap₂, ◌∙◌}
use mathlib.Core.Bool.{Bool, true, false, ◌&&◌}
use mathlib.Core.List.{List, [], ◌∷◌, ◌++◌, append_assoc}
use Prim.Native.Nat.{ℕ, zero, suc, ◌+◌, ◌≤◌, ◌<◌}
use native.Mathlib.Omega.{arith}
use lib.ListN.{length, length-append}
use borrow.Author.Tests.{eq-eqb}
use Rattle.ask.specs.Ask.{accepted, first_no}
use Rattle.ask.specs.Limits.{shift_max}
use Rattle.layout.specs.Geometry.{size_ok, slice_count, max_dc_len, max_ac_len, interlace_capable}
use Rattle.parser.specs.streams.Streams.{streams}
use Rattle.parser.specs.head.Header.{header_length, header_questions, FrameRead, frame_read}
use Rattle.parser.specs.Frame.{dc_streams, parse_of}
use Rattle.layout.proofs.Laws.{sized}
use Rattle.parser.proofs.head.Laws.{all_yes}
use Rattle.parser.proofs.Laws.{dc_only, ac_too}
use Rattle.builder.specs.Build.{header_bytes, count_byte}
use Rattle.builder.specs.streams.Put.{stream_bytes, all_streams}
use Rattle.frames.specs.Whole.{Within}
use Rattle.frames.proofs.Put.{stream_length}
use Rattle.frames.proofs.Back.{streams_read}

-- what reading gives back: an interlaced flag only at the heights that keep it
abbrev pub read_back : ℕ → Bool → ℕ → ℕ → Bool → FrameRead
read_back h interlaced quality shift there =
    record { interlaced = interlaced && interlace_capable h; quality = quality; dc_shift = shift; header_len = length (header_bytes interlaced quality shift (count_byte h)); ac_there = there }

-- the header of a frame, whatever follows it
module _ (w h : ℕ) (interlaced : Bool) (quality shift : ℕ) (size : size_ok w h ≡ true) (small : shift ≤ shift_max) (rest : List ℕ) (more : 2 ≤ length rest) where
  abbrev f : List ℕ
  f = header_bytes interlaced quality shift (count_byte h) ++ rest

  pub head_yes : first_no (header_questions w h f) ≡ 0
  unfolding header_bytes
  head_yes = go interlaced shift small
    where
      go : (i : Bool) (s : ℕ) → s ≤ shift_max → first_no (header_questions w h (header_bytes i quality s (count_byte h) ++ rest)) ≡ 0
      go false zero k = all_yes w h (header_bytes false quality zero (count_byte h) ++ rest) size (omega arith) (omega arith) (omega arith) (omega arith) (eq-eqb (count_byte h) (count_byte h) refl)
      go true zero k = all_yes w h (header_bytes true quality zero (count_byte h) ++ rest) size (omega arith) (omega arith) (omega arith) (omega arith) (eq-eqb (count_byte h) (count_byte h) refl)
      go false (suc s) k = all_yes w h (header_bytes false quality (suc s) (count_byte h) ++ rest) size (omega arith) (omega arith) (omega arith) k (eq-eqb (count_byte h) (count_byte h) refl)
      go true (suc s) k = all_yes w h (header_bytes true quality (suc s) (count_byte h) ++ rest) size (omega arith) (omega arith) (omega arith) k (eq-eqb (count_byte h) (count_byte h) refl)

pub head_length : (interlaced : Bool) (quality shift count : ℕ) (rest : List ℕ) → header_length (header_bytes interlaced quality shift count ++ rest) ≡ length (header_bytes interlaced quality shift count)
unfolding header_bytes
head_length false quality zero count rest = refl
head_length true quality zero count rest = refl
head_length interlaced quality (suc s) count rest = refl

pub head_read : (h : ℕ) (interlaced : Bool) (quality shift : ℕ) (rest : List ℕ) (there : Bool) → frame_read h (header_bytes interlaced quality shift (count_byte h) ++ rest) there ≡ read_back h interlaced quality shift there
unfolding header_bytes
head_read h false quality zero rest there = refl
head_read h true quality zero rest there = refl
head_read h false quality (suc s) rest there = refl
head_read h true quality (suc s) rest there = refl

some_bytes : (a : List ℕ) (rest : List (List ℕ)) → 4 ≤ length (all_streams (a ∷ rest))
unfolding all_streams
some_bytes a rest = omega (arith, length-append (stream_bytes a) (all_streams rest), stream_length a)

-- ---- the whole frame: all slices' DC streams, then all slices' AC streams or none
module _ (w h : ℕ) (interlaced : Bool) (quality shift : ℕ) (size : size_ok w h ≡ true) (small : shift ≤ shift_max) (s : List ℕ) (ss : List (List ℕ)) (count : length (s ∷ ss) ≡ slice_count h) (dcs : Within (max_dc_len w) (s ∷ ss)) where
  abbrev head : List ℕ
  head = header_bytes interlaced quality shift (count_byte h)

  pub dc_limit : max_dc_len w < 4294967296
  dc_limit = omega (arith, (sized w h size).wide)

  pub ac_limit : max_ac_len w < 4294967296
  ac_limit = omega (arith, (sized w h size).wide)

  four : (l : List ℕ) → 2 ≤ length (all_streams (s ∷ ss) ++ l)
  unfolding all_streams
  four l = omega (arith, length-append (stream_bytes s ++ all_streams ss) l, length-append (stream_bytes s) (all_streams ss), stream_length s)

  pub dc_walked : (post : List ℕ) → dc_streams w h (head ++ (all_streams (s ∷ ss) ++ post)) ≡ accepted (length head + length (all_streams (s ∷ ss)))
  dc_walked post =
      ap₂ (λ (n p : ℕ). streams n (max_dc_len w) (head ++ (all_streams (s ∷ ss) ++ post)) p) (sym count) (head_length interlaced quality shift (count_byte h) (all_streams (s ∷ ss) ++ post))
      ∙ streams_read (max_dc_len w) dc_limit head (s ∷ ss) post dcs

  -- "A frame that ends after its DC streams has no AC."
  pub read_dc_lem : parse_of w h (head ++ (all_streams (s ∷ ss) ++ [])) ≡ accepted (read_back h interlaced quality shift false)
  read_dc_lem =
      let x = all_streams (s ∷ ss) in
      dc_only w h (head ++ (x ++ [])) (head_yes w h interlaced quality shift size small (x ++ []) (four [])) (dc_walked [])
      (omega (arith, length-append head (x ++ []), length-append x []))
      ∙ ap accepted (head_read h interlaced quality shift (x ++ []) false)

  -- "Bytes behind the last stream are ignored."
  pub read_both : (a : List ℕ) (rest : List (List ℕ)) → length (a ∷ rest) ≡ slice_count h → Within (max_ac_len w) (a ∷ rest) → (behind : List ℕ)
      → parse_of w h (head ++ (all_streams (s ∷ ss) ++ (all_streams (a ∷ rest) ++ behind))) ≡ accepted (read_back h interlaced quality shift true)
  read_both a rest c l behind =
      let x = all_streams (s ∷ ss) in
      let y = all_streams (a ∷ rest) in
      let p : length (head ++ x) ≡ length head + length x = length-append head x in
      let e : (head ++ x) ++ (y ++ behind) ≡ head ++ (x ++ (y ++ behind)) = append_assoc head x (y ++ behind) in
      let k : streams (length (a ∷ rest)) (max_ac_len w) ((head ++ x) ++ (y ++ behind)) (length (head ++ x)) ≡ accepted (length (head ++ x) + length y) = streams_read (max_ac_len w) ac_limit (head ++ x) (a ∷ rest) behind l in
      ac_too w h (head ++ (x ++ (y ++ behind))) (head_yes w h interlaced quality shift size small (x ++ (y ++ behind)) (four (y ++ behind))) (dc_walked (y ++ behind))
      (omega (arith, length-append head (x ++ (y ++ behind)), length-append x (y ++ behind), length-append y behind, some_bytes a rest))
      (ap₂ (λ (n q : ℕ). streams n (max_ac_len w) (head ++ (x ++ (y ++ behind))) q) (sym c) (sym p)
      ∙ ap (λ (l : List ℕ). streams (length (a ∷ rest)) (max_ac_len w) l (length (head ++ x))) (sym e) ∙ k)
      ∙ ap accepted (head_read h interlaced quality shift (x ++ (y ++ behind)) true)
