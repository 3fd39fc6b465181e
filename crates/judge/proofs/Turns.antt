-- A stream's planes in turn.
use mathlib.Core.Path.{◌≡◌, refl, sym, ap, ◌∙◌}
use mathlib.Core.Bool.{Bool, true, false}
use mathlib.Core.List.{List, [], ◌∷◌}
use Prim.Native.Nat.{ℕ, zero, suc, ◌+◌, ◌*◌, ◌≤◌, ◌<◌}
use native.Mathlib.Numerals.{add-one}
use native.Mathlib.Omega.{arith}
use mir.Syntax.{w8}
use mir.Val.{Fits}
use lib.ListN.{length, take, drop, get_or, length-drop}
use lib.Seq.{drop-cons, length-take-le, get_or-take}
use Rattle.ask.specs.Ask.{Answer, refused, accepted}
use Rattle.ask.specs.Limits.{planes_max, stride_max}
use Rattle.calls.specs.Grid.{blocks_of}
use Rattle.calls.specs.Views.{stride_by}
use Rattle.calls.specs.declared.Four.{Four}
use Rattle.judge.specs.Good.{first_strides, goes_on, good_in_turn}
use Rattle.judge.proofs.Clean.{AnswerTo, Spans, Clean}

-- a stream that is clean from its start on
pub clean_good : (read : ℕ → ℕ → Answer ℕ) (from : ℕ) → Clean read from → (ws : List ℕ) (at : ℕ) → from ≤ at → good_in_turn read ws at ≡ true
unfolding good_in_turn
clean_good read from c [] at h = refl
clean_good read from c (w ∷ ws) at h =
    by_answer at (at + 896 * blocks_of w) (read w at) (λ q. good_in_turn read ws q) (c w at h) (λ q g. clean_good read from c ws q (omega arith))
  where
    by_answer : (a b : ℕ) (x : Answer ℕ) (next : ℕ → Bool) → AnswerTo ⊥ a b x → ((q : ℕ) → a ≤ q → next q ≡ true) → goes_on x next ≡ true
    by_answer a b (refused n) next e f = absurd e
    by_answer a b (accepted q) next e f = f q e.0

module _ (read : ℕ → ℕ → Answer ℕ) (w : ℕ) (ws : List ℕ) (at : ℕ) where
  turn_on : {q : ℕ} → accepted q ≡ read w at → good_in_turn read (w ∷ ws) at ≡ good_in_turn read ws q
  unfolding good_in_turn
  turn_on e = ap (λ (x : Answer ℕ). goes_on x (λ q. good_in_turn read ws q)) (sym e)

  turn_bad : {n : ℕ} → refused n ≡ read w at → good_in_turn read (w ∷ ws) at ≡ false
  unfolding good_in_turn
  turn_bad e = ap (λ (x : Answer ℕ). goes_on x (λ q. good_in_turn read ws q)) (sym e)

none_left : (read : ℕ → ℕ → Answer ℕ) (ws : List ℕ) (at : ℕ) → length ws ≤ 0 → good_in_turn read ws at ≡ true
unfolding good_in_turn
none_left read [] at h = refl
none_left read (w ∷ ws) at h = absurd (omega arith)

-- k of the planes were read, the next begins at the byte x
pub record Turns (read : ℕ → ℕ → Answer ℕ) (ws : List ℕ) (at k x : ℕ) : Type 0 where
  pub same : good_in_turn read ws at ≡ good_in_turn read (drop k ws) x
  pub near : x ≤ at + 1720320 * k

pub turns_start : (read : ℕ → ℕ → Answer ℕ) (ws : List ℕ) (at : ℕ) → Turns read ws at 0 at
turns_start read ws at = record { same = refl; near = omega arith }

module _ (read : ℕ → ℕ → Answer ℕ) (ws : List ℕ) (at k x : ℕ) (i : Turns read ws at k x) where
  pub turns_over : length ws ≤ k → good_in_turn read ws at ≡ true
  turns_over h = i.same ∙ none_left read (drop k ws) x (omega (arith, length-drop k ws))

  module _ (w : ℕ) (h : k < length ws) (f : w ≡ get_or ws k 0) where
    here : drop k ws ≡ w ∷ drop (k + 1) ws
    here = rw (f, add-one) (drop-cons ws k 0 h)

    pub turns_bad : {n : ℕ} → refused n ≡ read w x → good_in_turn read ws at ≡ false
    turns_bad e = i.same ∙ ap (λ (l : List ℕ). good_in_turn read l x) here ∙ turn_bad read w (drop (k + 1) ws) x e

    pub turns_next : Spans read → w ≤ stride_max → {q : ℕ} → accepted q ≡ read w x → Turns read ws at (k + 1) q
    turns_next s g {q} e =
        record {
          same = i.same ∙ ap (λ (l : List ℕ). good_in_turn read l x) here ∙ turn_on read w (drop (k + 1) ws) x e;
          near = omega (arith, by_answer (read w x) (s w x g) e, i.near);
        }
      where
        by_answer : (y : Answer ℕ) → AnswerTo Unit x (x + 1720320) y → accepted q ≡ y → q ≤ x + 1720320
        by_answer (refused n) o d = absurd (let z : ◌≡◌ {A = ℕ} 0 1 = cc in omega arith)
        by_answer (accepted r) o d = let z : q ≡ r = cc in omega (arith, o.1)

pub of_byte : {x : ℕ} → Fits w8 x → x < 256
of_byte h = omega arith

-- the first planes of four
pub one_of : (f : Four) (k : ℕ) → k < 4 → stride_by f k ≡ get_or (stride_by f 0 ∷ stride_by f 1 ∷ stride_by f 2 ∷ stride_by f 3 ∷ []) k 0
one_of f zero h = refl
one_of f (suc zero) h = refl
one_of f (suc (suc zero)) h = refl
one_of f (suc (suc (suc zero))) h = refl
one_of f (suc (suc (suc (suc k)))) h = absurd (omega arith)

module _ (f : Four) (most : f.count ≤ planes_max) where
  pub first_length : length (first_strides f) ≡ f.count
  first_length = length-take-le f.count (stride_by f 0 ∷ stride_by f 1 ∷ stride_by f 2 ∷ stride_by f 3 ∷ []) most

  pub first_at : (k : ℕ) → k < f.count → stride_by f k ≡ get_or (first_strides f) k 0
  first_at k h = one_of f k (omega arith) ∙ sym (get_or-take f.count (stride_by f 0 ∷ stride_by f 1 ∷ stride_by f 2 ∷ stride_by f 3 ∷ []) k 0 h)

-- the strides that a loop goes over are those of the first planes
pub strides_taken : (f : Four) → length f.strides ≡ 4 → take f.count f.strides ≡ first_strides f
strides_taken f e = ap (take f.count) (four f.strides e)
  where
    four : (l : List ℕ) → length l ≡ 4 → l ≡ get_or l 0 0 ∷ get_or l 1 0 ∷ get_or l 2 0 ∷ get_or l 3 0 ∷ []
    four [] h = absurd (omega arith)
    four (a ∷ []) h = absurd (omega arith)
    four (a ∷ b ∷ []) h = absurd (omega arith)
    four (a ∷ b ∷ c ∷ []) h = absurd (omega arith)
    four (a ∷ b ∷ c ∷ d ∷ []) h = refl
    four (a ∷ b ∷ c ∷ d ∷ x ∷ l) h = absurd (omega arith)
