-- The builder's frame is `write`'s, wherever the streams are within their limits and the buffer has room.
use mathlib.Core.Path.{◌≡◌, refl, sym, ap, ◌∙◌}
use mathlib.Core.Bool.{Bool, true, false}
use mathlib.Core.List.{List, [], ◌∷◌, ◌++◌, append_assoc, append-nil}
use Prim.Native.Nat.{ℕ, zero, suc, ◌+◌, ◌≤◌, ◌<◌}
use native.Mathlib.Nat.{add-zero}
use native.Mathlib.Omega.{arith}
use lib.ListN.{length, length-append}
use borrow.Author.Tests.{lt-ltb, le-leb, eq-eqb, ne_eqb}
use Rattle.ask.specs.Limits.{shift_max}
use Rattle.ask.specs.Ask.{accepted}
use Rattle.bits.specs.Lay.{lay}
use Rattle.bits.proofs.LayLaw.{lay_lay, lay_length}
use Rattle.layout.specs.Geometry.{size_ok, slice_count, max_dc_len, max_ac_len, limit_of}
use Rattle.builder.specs.Build.{Build, header_size, header_bytes, count_byte, header_of, started}
use Rattle.builder.specs.streams.Put.{length_word, stream_bytes, stream_of, after_stream, in_turn, same, is_last_slice, all_streams, write_of}
use Rattle.builder.proofs.Laws.{all_yes, header_yes}
use Rattle.builder.proofs.streams.Laws.{stream_yes, stream_done}
use Rattle.frames.specs.Whole.{put_all, build_of, Within}

pub stream_length : (s : List ℕ) → length (stream_bytes s) ≡ 4 + length s
unfolding stream_bytes
stream_length s = length-append (length_word (length s)) s

same_self : (b : Bool) → same b b ≡ true
same_self true = refl
same_self false = refl

-- a stream in turn, within its limit and with room, is put
module _ (w h : ℕ) (size : size_ok w h ≡ true) (b : Build) (ac : Bool) (k : ℕ) (s out : List ℕ) (t : b.ac_turn ≡ ac) (n : b.next ≡ k) (l : k < slice_count h) (m : length s ≤ limit_of ac w) (r : b.at + (4 + length s) ≤ length out) where
  turn : in_turn (slice_count h) ac k b ≡ true
  turn = rw (lt-ltb k (slice_count h) l, t, same_self ac, n, eq-eqb k k refl)

  put_one : stream_of w h b ac k s out ≡ accepted (record { state = after_stream (slice_count h) b (b.at + (4 + length s)); bytes = lay out b.at (stream_bytes s) })
  put_one = stream_done w h b ac k s out (stream_yes w h b ac k (length s) (length out) (le-leb (b.at + (4 + length s)) (length out) r) size m turn)

-- the state after streams of one kind
abbrev pub after_all : ℕ → Build → List (List ℕ) → Build
after_all slices b [] = b
after_all slices b (s ∷ ss) = after_all slices (after_stream slices b (b.at + (4 + length s))) ss

not_last : (slices : ℕ) (b : Build) (k m : ℕ) → b.next ≡ k → k + suc (suc m) ≡ slices → is_last_slice slices b ≡ false
not_last slices b k m n e = ne_eqb (b.next + 1) slices (λ f. omega arith)

is_last : (slices : ℕ) (b : Build) (k : ℕ) → b.next ≡ k → k + 1 ≡ slices → is_last_slice slices b ≡ true
is_last slices b k n e = eq-eqb (b.next + 1) slices (omega arith)

turn_on : (slices : ℕ) (b : Build) (at : ℕ) → is_last_slice slices b ≡ false → (after_stream slices b at).ac_turn ≡ b.ac_turn
turn_on slices b at e = rw e

next_on : (slices : ℕ) (b : Build) (at : ℕ) → is_last_slice slices b ≡ false → (after_stream slices b at).next ≡ b.next + 1
next_on slices b at e = go b.ac_turn refl
  where
    go : (a : Bool) → b.ac_turn ≡ a → (after_stream slices b at).next ≡ b.next + 1
    go true t = rw t
    go false t = rw (t, e)

-- all streams of a kind, from slice k to the last
put_all_lem : (w h : ℕ) → size_ok w h ≡ true → (b : Build) (ac : Bool) (k : ℕ) (s : List ℕ) (ss : List (List ℕ)) (out : List ℕ)
    → b.ac_turn ≡ ac → b.next ≡ k → k + length (s ∷ ss) ≡ slice_count h → Within (limit_of ac w) (s ∷ ss) → b.at + length (all_streams (s ∷ ss)) ≤ length out
    → put_all w h b ac k (s ∷ ss) out ≡ accepted (record { state = after_all (slice_count h) b (s ∷ ss); bytes = lay out b.at (all_streams (s ∷ ss)) })
unfolding put_all all_streams
put_all_lem w h size b ac k s [] out t n e v r =
    rw (put_one w h size b ac k s out t n (omega arith) v.0 (omega (arith, length-append (stream_bytes s) [], stream_length s)))
    (ap (λ (x : List ℕ). accepted (record { state = after_all (slice_count h) b (s ∷ []); bytes = lay out b.at x })) (sym (append-nil (stream_bytes s))))
put_all_lem w h size b ac k s (u ∷ us) out t n e v r =
    let j : length (stream_bytes s ++ all_streams (u ∷ us)) ≡ length (stream_bytes s) + length (all_streams (u ∷ us)) = length-append (stream_bytes s) (all_streams (u ∷ us)) in
    let g : is_last_slice (slice_count h) b ≡ false = not_last (slice_count h) b k (length us) n e in
    let b' = after_stream (slice_count h) b (b.at + (4 + length s)) in
    let out' = lay out b.at (stream_bytes s) in
    let i : length out' ≡ length out = lay_length out b.at (stream_bytes s) (omega (arith, stream_length s)) in
    rw (put_one w h size b ac k s out t n (omega arith) v.0 (omega (arith, stream_length s)))
    (put_all_lem w h size b' ac (suc k) u us out' (turn_on (slice_count h) b (b.at + (4 + length s)) g ∙ t) (next_on (slice_count h) b (b.at + (4 + length s)) g ∙ omega arith) (omega arith) v.1 (omega (arith, stream_length s))
    ∙ ap (λ (x : List ℕ). accepted (record { state = after_all (slice_count h) b' (u ∷ us); bytes = x }))
    (ap (λ (p : ℕ). lay out' p (all_streams (u ∷ us))) (ap (λ (p : ℕ). b.at + p) (sym (stream_length s))) ∙ lay_lay out b.at (stream_bytes s) (omega arith) (all_streams (u ∷ us))))

-- ---- the state between DC and AC streams, and after them
pub all_at : (slices : ℕ) (b : Build) (ss : List (List ℕ)) → (after_all slices b ss).at ≡ b.at + length (all_streams ss)
unfolding all_streams
all_at slices b [] = sym (add-zero b.at)
all_at slices b (s ∷ ss) =
    all_at slices (after_stream slices b (b.at + (4 + length s))) ss ∙ omega (arith, length-append (stream_bytes s) (all_streams ss), stream_length s)

-- after the last DC stream the AC streams have their turn
pub record AcNext (b : Build) : Type 0 where
  pub turn : b.ac_turn ≡ true
  pub next : b.next ≡ 0

ac_next : (slices : ℕ) (b : Build) (k : ℕ) (s : List ℕ) (ss : List (List ℕ)) → b.ac_turn ≡ false → b.next ≡ k → k + length (s ∷ ss) ≡ slices → AcNext (after_all slices b (s ∷ ss))
ac_next slices b k s [] t n e =
    let g : is_last_slice slices b ≡ true = is_last slices b k n (omega arith) in
    record { turn = rw g; next = rw (t, g) }
ac_next slices b k s (u ∷ us) t n e =
    let at = b.at + (4 + length s) in
    let g : is_last_slice slices b ≡ false = not_last slices b k (length us) n e in
    ac_next slices (after_stream slices b at) (suc k) u us (turn_on slices b at g ∙ t) (next_on slices b at g ∙ omega arith) (omega arith)

no_more : (l : List ℕ) → l ++ all_streams [] ≡ l
unfolding all_streams
no_more l = append-nil l

-- ---- the whole frame
pub header_length_lem : (interlaced : Bool) (quality shift count : ℕ) → length (header_bytes interlaced quality shift count) ≡ header_size shift
unfolding header_bytes
header_length_lem interlaced quality zero count = refl
header_length_lem interlaced quality (suc s) count = refl

module _ (w h : ℕ) (interlaced : Bool) (quality shift : ℕ) (size : size_ok w h ≡ true) (small : shift ≤ shift_max) (s : List ℕ) (ss : List (List ℕ)) (count : length (s ∷ ss) ≡ slice_count h) (dcs : Within (max_dc_len w) (s ∷ ss)) (out : List ℕ) (at : ℕ) where
  abbrev head : List ℕ
  head = header_bytes interlaced quality shift (count_byte h)

  abbrev start : Build
  start = started (at + header_size shift)

  head_put : at + length head ≤ length out → header_of w h interlaced quality shift out at ≡ accepted (record { state = start; bytes = lay out at head })
  head_put r =
      header_yes w h interlaced quality shift out at
      (all_yes w h shift (length out) at small (le-leb (at + header_size shift) (length out) (omega (arith, header_length_lem interlaced quality shift (count_byte h)))) size)

  dc_put : at + length (head ++ all_streams (s ∷ ss)) ≤ length out
      → put_all w h start false 0 (s ∷ ss) (lay out at head) ≡ accepted (record { state = after_all (slice_count h) start (s ∷ ss); bytes = lay out at (head ++ all_streams (s ∷ ss)) })
  dc_put r =
      let a = length-append head (all_streams (s ∷ ss)) in
      let b = header_length_lem interlaced quality shift (count_byte h) in
      put_all_lem w h size start false 0 s ss (lay out at head) refl refl (omega (arith, count)) dcs (omega (arith, lay_length out at head (omega arith)))
      ∙ ap (λ (x : List ℕ). accepted (record { state = after_all (slice_count h) start (s ∷ ss); bytes = x }))
      (ap (λ (p : ℕ). lay (lay out at head) p (all_streams (s ∷ ss))) (ap (λ (p : ℕ). at + p) (sym b)) ∙ lay_lay out at head (omega arith) (all_streams (s ∷ ss)))

  -- a frame without AC
  pub builds_dc : at + length (write_of h interlaced quality shift (s ∷ ss) []) ≤ length out
      → build_of w h interlaced quality shift (s ∷ ss) [] out at ≡ accepted (record { state = after_all (slice_count h) start (s ∷ ss); bytes = lay out at (write_of h interlaced quality shift (s ∷ ss) []) })
  unfolding build_of write_of put_all
  builds_dc r =
      let z : all_streams (s ∷ ss) ++ all_streams [] ≡ all_streams (s ∷ ss) = no_more (all_streams (s ∷ ss)) in
      let e : length (head ++ (all_streams (s ∷ ss) ++ all_streams [])) ≡ length (head ++ all_streams (s ∷ ss)) = ap (λ (x : List ℕ). length (head ++ x)) z in
      rw (head_put (omega (arith, length-append head (all_streams (s ∷ ss)))), dc_put (omega arith))
      (ap (λ (x : List ℕ). accepted (record { state = after_all (slice_count h) start (s ∷ ss); bytes = lay out at (head ++ x) })) (sym z))

  -- a frame with the AC streams of all slices
  pub builds : (a : List ℕ) (rest : List (List ℕ)) → length (a ∷ rest) ≡ slice_count h → Within (max_ac_len w) (a ∷ rest) → at + length (write_of h interlaced quality shift (s ∷ ss) (a ∷ rest)) ≤ length out
      → build_of w h interlaced quality shift (s ∷ ss) (a ∷ rest) out at
      ≡ accepted (record { state = after_all (slice_count h) (after_all (slice_count h) start (s ∷ ss)) (a ∷ rest); bytes = lay out at (write_of h interlaced quality shift (s ∷ ss) (a ∷ rest)) })
  unfolding build_of write_of
  builds a rest c l r =
      let x = all_streams (s ∷ ss) in
      let y = all_streams (a ∷ rest) in
      let mid = after_all (slice_count h) start (s ∷ ss) in
      let i = length-append head (x ++ y) in
      let j = length-append x y in
      let k = length-append head x in
      let t = ac_next (slice_count h) start 0 s ss refl refl (omega (arith, count)) in
      let p : mid.at ≡ at + length (head ++ x) = all_at (slice_count h) start (s ∷ ss) ∙ omega (arith, header_length_lem interlaced quality shift (count_byte h)) in
      rw (head_put (omega arith), dc_put (omega arith))
      (put_all_lem w h size mid true 0 a rest (lay out at (head ++ x)) t.turn t.next (omega (arith, c)) l (omega (arith, lay_length out at (head ++ x) (omega arith)))
      ∙ ap (λ (z : List ℕ). accepted (record { state = after_all (slice_count h) mid (a ∷ rest); bytes = z }))
      (ap (λ (q : ℕ). lay (lay out at (head ++ x)) q y) p ∙ lay_lay out at (head ++ x) (omega arith) y ∙ ap (lay out at) (append_assoc head x y)))
