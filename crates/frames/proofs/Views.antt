-- "Reading what was built gives back header, streams and their bytes": the streams, by `view_of`.
use mathlib.Core.Path.{◌≡◌, refl, sym, ap, ap₂, ◌∙◌}
use mathlib.Core.Bool.{Bool, true, false, ◌&&◌}
use mathlib.Core.List.{List, [], ◌∷◌, ◌++◌, append_assoc, append-nil}
use Prim.Native.Nat.{ℕ, zero, suc, ◌+◌, ◌≤◌, ◌<◌}
use native.Mathlib.Omega.{arith}
use lib.Dec.{ltb}
use lib.ListN.{length, length-append}
use borrow.Author.Tests.{ltb-true, ltb-false}
use Rattle.ask.specs.Ask.{refused, accepted}
use Rattle.ask.specs.Limits.{shift_max}
use Rattle.ask.specs.Numbers.{no_turn}
use Rattle.layout.specs.Geometry.{width_ok, size_ok, slice_count, max_dc_len, max_ac_len}
use Rattle.parser.specs.streams.Streams.{one_stream, streams}
use Rattle.parser.specs.head.Header.{FrameRead}
use Rattle.parser.specs.Frame.{dc_streams, nth_stream, parse_of, view_of, bytes_of}
use Rattle.parser.proofs.Laws.{ac_nth, view_yes, view_beyond, view_unwanted}
use Rattle.builder.specs.Build.{header_bytes, count_byte}
use Rattle.builder.specs.streams.Put.{stream_bytes, all_streams, write_of}
use Rattle.frames.specs.Whole.{Within, Complete, of_kind, stream_at}
use Rattle.frames.proofs.Put.{stream_length}
use Rattle.frames.proofs.Back.{one_read, its_bytes}
use Rattle.frames.proofs.Read.{read_back, head_length, dc_limit, ac_limit, dc_walked, read_dc_lem, read_both}

-- ---- the stream of a slice, among the streams of its kind
nth_turn : (k limit : ℕ) (f : List ℕ) (p q : ℕ) → one_stream limit f p ≡ accepted q → nth_stream (suc k) limit f p ≡ nth_stream k limit f q
unfolding nth_stream streams
nth_turn k limit f p q e = rw e

nth_first : (limit : ℕ) → limit < 4294967296 → (pre s post : List ℕ) → length s ≤ limit
    → bytes_of (pre ++ (stream_bytes s ++ post)) (nth_stream zero limit (pre ++ (stream_bytes s ++ post)) (length pre)) ≡ accepted s
unfolding nth_stream streams
nth_first limit small pre s post h = rw (one_read limit small pre s post h) (ap accepted (its_bytes limit small pre s post h))

nth_back : (limit : ℕ) → limit < 4294967296 → (pre : List ℕ) (ss : List (List ℕ)) (post : List ℕ) → Within limit ss → (k : ℕ) → k < length ss
    → let f = pre ++ (all_streams ss ++ post) in bytes_of f (nth_stream k limit f (length pre)) ≡ stream_at ss k
unfolding all_streams
nth_back limit small pre [] post w k h = absurd (omega arith)
nth_back limit small pre (s ∷ ss) post w zero h =
    ap (λ (f : List ℕ). bytes_of f (nth_stream zero limit f (length pre))) (ap (λ (l : List ℕ). pre ++ l) (append_assoc (stream_bytes s) (all_streams ss) post))
    ∙ nth_first limit small pre s (all_streams ss ++ post) w.0
nth_back limit small pre (s ∷ ss) post w (suc k) h =
    let f = pre ++ (stream_bytes s ++ (all_streams ss ++ post)) in
    let g : f ≡ (pre ++ stream_bytes s) ++ (all_streams ss ++ post) = sym (append_assoc pre (stream_bytes s) (all_streams ss ++ post)) in
    let p : length pre + (4 + length s) ≡ length (pre ++ stream_bytes s) = omega (arith, length-append pre (stream_bytes s), stream_length s) in
    ap (λ (l : List ℕ). bytes_of l (nth_stream (suc k) limit l (length pre))) (ap (λ (l : List ℕ). pre ++ l) (append_assoc (stream_bytes s) (all_streams ss) post))
    ∙ ap (bytes_of f) (nth_turn k limit f (length pre) (length pre + (4 + length s)) (one_read limit small pre s (all_streams ss ++ post) w.0))
    ∙ ap₂ (λ (l : List ℕ) (q : ℕ). bytes_of l (nth_stream k limit l q)) g p
    ∙ nth_back limit small (pre ++ stream_bytes s) ss post w.1 k (omega arith)

beyond : (ss : List (List ℕ)) (k : ℕ) → length ss ≤ k → stream_at ss k ≡ refused no_turn
beyond [] k h = refl
beyond (s ∷ ss) zero h = absurd (omega arith)
beyond (s ∷ ss) (suc k) h = beyond ss k (omega arith)

-- below the count by the walk; from the count on 14
by_count : (w h : ℕ) (f : List ℕ) (kind : Bool) (k : ℕ) (ss : List (List ℕ)) {r : FrameRead} → parse_of w h f ≡ accepted r → length ss ≤ slice_count h
    → (k < slice_count h → bytes_of f (view_of w h f kind k) ≡ stream_at ss k) → bytes_of f (view_of w h f kind k) ≡ stream_at ss k
by_count w h f kind k ss e c below = go (ltb k (slice_count h)) refl
  where
    go : (b : Bool) → ltb k (slice_count h) ≡ b → bytes_of f (view_of w h f kind k) ≡ stream_at ss k
    go true x = below (ltb-true k (slice_count h) x)
    go false x =
        let l : slice_count h ≤ k = ltb-false k (slice_count h) x in
        ap (bytes_of f) (view_beyond w h f kind k e l) ∙ sym (beyond ss k (omega (arith, c, l)))

-- ---- the views of a frame with at least one DC stream
module _ (w h : ℕ) (interlaced : Bool) (quality shift : ℕ) (size : size_ok w h ≡ true) (small : shift ≤ shift_max) (s : List ℕ) (ss : List (List ℕ)) (count : length (s ∷ ss) ≡ slice_count h) (dcs : Within (max_dc_len w) (s ∷ ss)) where
  abbrev head : List ℕ
  head = header_bytes interlaced quality shift (count_byte h)

  abbrev dc : List ℕ
  dc = all_streams (s ∷ ss)

  dc_view : (post : List ℕ) (k : ℕ) {r : FrameRead} → parse_of w h (head ++ (dc ++ post)) ≡ accepted r
      → bytes_of (head ++ (dc ++ post)) (view_of w h (head ++ (dc ++ post)) false k) ≡ stream_at (s ∷ ss) k
  dc_view post k e =
      let f = head ++ (dc ++ post) in
      by_count w h f false k (s ∷ ss) e (omega (arith, count)) (λ l.
      ap (bytes_of f)
      (view_yes w h f false k e l refl
      ∙ ap (λ (p : ℕ). nth_stream k (max_dc_len w) f p) (head_length interlaced quality shift (count_byte h) (dc ++ post)))
      ∙ nth_back (max_dc_len w) (dc_limit w h interlaced quality shift size small s ss count dcs) head (s ∷ ss) post dcs k (omega (arith, count)))

  -- no AC stream was put: none is there
  without : (kind : Bool) (k : ℕ) → bytes_of (head ++ (dc ++ [])) (view_of w h (head ++ (dc ++ [])) kind k) ≡ stream_at (of_kind kind (s ∷ ss) []) k
  without false k = dc_view [] k (read_dc_lem w h interlaced quality shift size small s ss count dcs)
  without true k =
      let f = head ++ (dc ++ []) in
      let e = read_dc_lem w h interlaced quality shift size small s ss count dcs in
      by_count w h f true k [] e (omega arith) (λ l. ap (bytes_of f) (view_unwanted w h f true k e l refl))

  module _ (a : List ℕ) (rest : List (List ℕ)) (c : length (a ∷ rest) ≡ slice_count h) (l : Within (max_ac_len w) (a ∷ rest)) (behind : List ℕ) where
    abbrev ac : List ℕ
    ac = all_streams (a ∷ rest)

    abbrev f : List ℕ
    f = head ++ (dc ++ (ac ++ behind))

    read : parse_of w h f ≡ accepted (read_back h interlaced quality shift true)
    read = read_both w h interlaced quality shift size small s ss count dcs a rest c l behind

    both : (kind : Bool) (k : ℕ) → bytes_of f (view_of w h f kind k) ≡ stream_at (of_kind kind (s ∷ ss) (a ∷ rest)) k
    both false k = dc_view (ac ++ behind) k read
    both true k =
        let e : f ≡ (head ++ dc) ++ (ac ++ behind) = sym (append_assoc head dc (ac ++ behind)) in
        let d : dc_streams w h f ≡ accepted (length head + length dc) = dc_walked w h interlaced quality shift size small s ss count dcs (ac ++ behind) in
        let p : length head + length dc ≡ length (head ++ dc) = sym (length-append head dc) in
        by_count w h f true k (a ∷ rest) read (omega (arith, c)) (λ m.
        ap (bytes_of f) (view_yes w h f true k read m refl ∙ sym (ac_nth w h f k (length head + length dc) refl refl refl d))
        ∙ ap₂ (λ (x : List ℕ) (q : ℕ). bytes_of x (nth_stream k (max_ac_len w) x q)) e p
        ∙ nth_back (max_ac_len w) (ac_limit w h interlaced quality shift size small s ss count dcs) (head ++ dc) (a ∷ rest) behind l k (omega (arith, c)))

pub none : all_streams [] ≡ []
unfolding all_streams
none = refl

-- a legal size has a slice
not_so : (a : Bool) → a && false ≡ true → ⊥
not_so true e = cc
not_so false e = cc

pub a_slice : (w h : ℕ) → size_ok w h ≡ true → 0 ≡ slice_count h → ⊥
a_slice w h e n =
    let z : h ≡ 0 = omega arith in
    not_so (width_ok w) (rw z at e)

-- For DC and AC streams and every slice number: the part that `view_of` names in a frame that was built has the bytes of
-- the stream that was put. There is none, and the refusal is 14, from the slice count on, and of AC where none was put.
pub view_back : (w h : ℕ) (interlaced : Bool) (quality shift : ℕ) (dc ac : List (List ℕ)) (behind : List ℕ) → shift ≤ shift_max → Complete w h dc ac behind → (kind : Bool) (slice : ℕ)
    → let f = write_of h interlaced quality shift dc ac ++ behind in bytes_of f (view_of w h f kind slice) ≡ stream_at (of_kind kind dc ac) slice
unfolding write_of
view_back w h interlaced quality shift [] ac behind small p kind slice = absurd (a_slice w h p.size p.dc_all)
view_back w h interlaced quality shift (s ∷ ss) [] behind small p kind slice =
    let head = header_bytes interlaced quality shift (count_byte h) in
    let x = all_streams (s ∷ ss) in
    let e : (head ++ (x ++ all_streams [])) ++ behind ≡ head ++ (x ++ []) = ap (λ (l : List ℕ). (head ++ (x ++ all_streams [])) ++ l) p.ac_all ∙ append-nil (head ++ (x ++ all_streams [])) ∙ ap (λ (l : List ℕ). head ++ (x ++ l)) none in
    ap (λ (f : List ℕ). bytes_of f (view_of w h f kind slice)) e
    ∙ without w h interlaced quality shift p.size small s ss p.dc_all p.dc_fit kind slice
view_back w h interlaced quality shift (s ∷ ss) (a ∷ rest) behind small p kind slice =
    let head = header_bytes interlaced quality shift (count_byte h) in
    let x = all_streams (s ∷ ss) in
    let y = all_streams (a ∷ rest) in
    let e : (head ++ (x ++ y)) ++ behind ≡ head ++ (x ++ (y ++ behind)) = append_assoc head (x ++ y) behind ∙ ap (λ (l : List ℕ). head ++ l) (append_assoc x y behind) in
    ap (λ (f : List ℕ). bytes_of f (view_of w h f kind slice)) e
    ∙ both w h interlaced quality shift p.size small s ss p.dc_all p.dc_fit a rest p.ac_all p.ac_fit behind kind slice
