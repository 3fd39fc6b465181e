-- Laws of the builder's streams.
use mathlib.Core.Path.{◌≡◌, refl, sym, ap, ap₂, ◌∙◌}
use mathlib.Core.Bool.{Bool, true, false}
use mathlib.Core.List.{List, [], ◌∷◌}
use Prim.Native.Nat.{ℕ, zero, suc, ◌+◌, ◌≤◌, ◌<◌}
use native.Mathlib.Omega.{arith}
use lib.Dec.{leb, ltb, eqb}
use lib.ListN.{length}
use borrow.Author.Tests.{le-leb, leb-true, ltb-true, eqb-true}
use Rattle.ask.proofs.Asked.{asked_no, asked_yes}
use Rattle.ask.specs.Refusals.{number_of}
use Rattle.ask.specs.declared.refusal.Refusal.{Refusal}
use Rattle.ask.specs.Ask.{Answer, refused, accepted, first_no, asked}
use Rattle.ask.specs.Limits.{width_max}
use Rattle.bits.specs.Lay.{lay}
use Rattle.bits.proofs.LayLaw.{lay_lay}
use Rattle.layout.specs.Geometry.{size_question, size_ok, slice_count, max_dc_len, max_ac_len, limit_of}
use Rattle.builder.specs.Build.{Build, Built}
use Rattle.builder.proofs.Laws.{built}
use Rattle.builder.specs.streams.Put.{length_word, stream_questions, stream_of, stream_bytes, in_turn, after_stream, next_turn, same, is_complete, complete_of}

-- ---- what the questions leave
pub stream_yes : (w h : ℕ) (b : Build) (ac : Bool) (slice n len : ℕ) → leb (b.at + (4 + n)) len ≡ true → size_ok w h ≡ true → n ≤ limit_of ac w → in_turn (slice_count h) ac slice b ≡ true
    → first_no (stream_questions w h b ac slice n len) ≡ 0
unfolding stream_questions first_no
stream_yes w h b ac slice n len x s y z = rw (x, s, le-leb n (limit_of ac w) y, z)

-- a stream that is in turn
pub record Turn (slices : ℕ) (ac : Bool) (slice : ℕ) (b : Build) : Type 0 where
  pub kind : b.ac_turn ≡ ac
  pub number : b.next ≡ slice
  pub below : b.next < slices

same_kind : (ac t : Bool) → same ac t ≡ true → t ≡ ac
same_kind true t e = e
same_kind false true e = sym e
same_kind false false e = refl

in_its_turn : (slices : ℕ) (ac : Bool) (slice : ℕ) (b : Build) → in_turn slices ac slice b ≡ true → Turn slices ac slice b
in_its_turn slices ac slice b e = go (ltb slice slices) refl (same ac b.ac_turn) refl (eqb slice b.next) refl
  where
    no : false ≡ true → ⊥
    no g = cc

    go : (p : Bool) → ltb slice slices ≡ p → (q : Bool) → same ac b.ac_turn ≡ q → (r : Bool) → eqb slice b.next ≡ r → Turn slices ac slice b
    go false x q y r z = absurd (no (rw x at e))
    go true x false y r z = absurd (no (rw (x, y) at e))
    go true x true y false z = absurd (no (rw (x, y, z) at e))
    go true x true y true z =
        record {
          kind = same_kind ac b.ac_turn y;
          number = sym (eqb-true slice b.next z);
          below = omega (arith, ltb-true slice slices x, eqb-true slice b.next z);
        }

pub record Puts (w h : ℕ) (b : Build) (ac : Bool) (slice n len : ℕ) : Type 0 where
  pub room : b.at + (4 + n) ≤ len
  pub size : size_ok w h ≡ true
  pub within : n ≤ limit_of ac w
  pub turn : Turn (slice_count h) ac slice b

pub puts : (w h : ℕ) (b : Build) (ac : Bool) (slice n len : ℕ) → first_no (stream_questions w h b ac slice n len) ≡ 0 → Puts w h b ac slice n len
unfolding stream_questions first_no
puts w h b ac slice n len e = go (leb (b.at + (4 + n)) len) refl (size_ok w h) refl (leb n (limit_of ac w)) refl (in_turn (slice_count h) ac slice b) refl
  where
    go : (p : Bool) → leb (b.at + (4 + n)) len ≡ p → (s : Bool) → size_ok w h ≡ s → (q : Bool) → leb n (limit_of ac w) ≡ q → (r : Bool) → in_turn (slice_count h) ac slice b ≡ r → Puts w h b ac slice n len
    go false x s u q y r z = absurd (let k = rw x at e in omega arith)
    go true x false u q y r z = absurd (let k = rw (x, u) at e in omega arith)
    go true x true u false y r z = absurd (let k = rw (x, u, y) at e in omega arith)
    go true x true u true y false z = absurd (let k = rw (x, u, y, z) at e in omega arith)
    go true x true u true y true z =
        record {
          room = leb-true (b.at + (4 + n)) len x;
          size = u;
          within = leb-true n (limit_of ac w) y;
          turn = in_its_turn (slice_count h) ac slice b z;
        }

-- a stream within its limit has a length of 32 bits
pub short_stream : (w : ℕ) (ac : Bool) {n : ℕ} → w ≤ width_max → n ≤ limit_of ac w → n < 4294967296
short_stream w true h k = omega arith
short_stream w false h k = omega arith

pub below_count : {n m slices : ℕ} → n < m → slices ≡ m → n < slices
below_count l e = rw e l

-- ---- the state after a stream
abbrev with : Bool → ℕ → ℕ → Build
with t n at = record { ac_turn = t; next = n; at = at }

module _ (slices : ℕ) (b : Build) (at : ℕ) where
  pub after_ac : b.ac_turn ≡ true → with true (b.next + 1) at ≡ after_stream slices b at
  after_ac e = rw e (by_last (eqb (b.next + 1) slices))
    where
      by_last : (l : Bool) → with true (b.next + 1) at ≡ with (next_turn true l) (b.next + 1) at
      by_last true = refl
      by_last false = refl

  pub after_last : b.ac_turn ≡ false → eqb (b.next + 1) slices ≡ true → with true 0 at ≡ after_stream slices b at
  after_last e l = rw (e, l)

  pub after_dc : b.ac_turn ≡ false → eqb (b.next + 1) slices ≡ false → with false (b.next + 1) at ≡ after_stream slices b at
  after_dc e l = rw (e, l)

-- ---- the answers
module _ (w h : ℕ) (b : Build) (ac : Bool) (slice : ℕ) (s out : List ℕ) where
  pub stream_refused : (e : Refusal) → number_of e ≡ first_no (stream_questions w h b ac slice (length s) (length out)) → stream_of w h b ac slice s out ≡ refused (number_of e)
  unfolding stream_of
  stream_refused e k = sym (asked_no _ _ e k)

  pub stream_no : {n : ℕ} → n ≡ first_no (stream_questions w h b ac slice (length s) (length out)) → 0 < n → stream_of w h b ac slice s out ≡ refused n
  unfolding stream_of asked
  stream_no {n = zero} e k = absurd (omega arith)
  stream_no {n = suc n} e k = rw (← e)

  pub stream_done : first_no (stream_questions w h b ac slice (length s) (length out)) ≡ 0
      → stream_of w h b ac slice s out
      ≡ accepted (record { state = after_stream (slice_count h) b (b.at + (4 + length s)); bytes = lay out b.at (stream_bytes s) })
  unfolding stream_of asked
  stream_done e = rw e

  -- what an accepted stream says, whatever the state was: within the limit of its kind at this width, in turn, with room
  pub put_says : {r : Built} → stream_of w h b ac slice s out ≡ accepted r → Puts w h b ac slice (length s) (length out)
  put_says {r} e = go (first_no (stream_questions w h b ac slice (length s) (length out))) refl
    where
      never : {n : ℕ} → ◌≡◌ {A = Answer Built} (refused n) (accepted r) → ⊥
      never f = cc

      go : (n : ℕ) → first_no (stream_questions w h b ac slice (length s) (length out)) ≡ n → Puts w h b ac slice (length s) (length out)
      go zero f = puts w h b ac slice (length s) (length out) f
      go (suc n) f = absurd (never (sym (stream_no (sym f) (omega arith)) ∙ e))

-- "It refuses too-long streams": by the limit of its kind, found from the width, and by no other
pub dc_within : (w h : ℕ) (b : Build) (slice : ℕ) (s out : List ℕ) {r : Built} → stream_of w h b false slice s out ≡ accepted r → length s ≤ max_dc_len w
dc_within w h b slice s out e = (put_says w h b false slice s out e).within

pub ac_within : (w h : ℕ) (b : Build) (slice : ℕ) (s out : List ℕ) {r : Built} → stream_of w h b true slice s out ≡ accepted r → length s ≤ max_ac_len w
ac_within w h b slice s out e = (put_says w h b true slice s out e).within

-- a length word, then the stream
pub word_then : (out : List ℕ) (at : ℕ) (s : List ℕ) → at ≤ length out → lay (lay out at (length_word (length s))) (at + 4) s ≡ lay out at (stream_bytes s)
unfolding stream_bytes
word_then out at s h = lay_lay out at (length_word (length s)) h s

-- a state and the buffer that a call leaves
pub stream_built : (b : Build) (out : List ℕ) (at : ℕ) (s : List ℕ) {slices count : ℕ} {b' : Build} {l m : List ℕ} → at ≤ length out → slices ≡ count → b' ≡ after_stream slices b (at + 4 + length s)
    → m ≡ lay l (at + 4) s → l ≡ lay out at (length_word (length s)) → built (after_stream count b (at + (4 + length s))) (lay out at (stream_bytes s)) ≡ built b' m
stream_built b out at s {slices} {count} {b'} {l} {m} h c e f g =
    let i : at + (4 + length s) ≡ at + 4 + length s = omega arith in
    let j : m ≡ lay out at (stream_bytes s) = f ∙ ap (λ (x : List ℕ). lay x (at + 4) s) g ∙ word_then out at s h in
    ap₂ built (ap₂ (λ (k p : ℕ). after_stream k b p) (sym c) i ∙ sym e) (sym j)

-- ---- a complete frame
module _ (w h : ℕ) (t : Bool) (n : ℕ) where
  pub complete_told : {h' slices : ℕ} {b : Bool} → h' ≡ h → slices ≡ slice_count h' → 0 ≡ first_no (size_question w h ∷ []) → b ≡ is_complete slices t n → accepted b ≡ complete_of w h t n
  unfolding complete_of
  complete_told u c e f = rw (asked_yes (size_question w h ∷ []) (accepted (is_complete (slice_count h) t n)) e, f, c, u)

  pub complete_refused : (e : Refusal) → number_of e ≡ first_no (size_question w h ∷ []) → refused (number_of e) ≡ complete_of w h t n
  unfolding complete_of
  complete_refused e k = asked_no _ _ e k
