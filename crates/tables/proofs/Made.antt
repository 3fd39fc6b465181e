-- What `from_fn` makes with a closure that changes nothing: each element is what one call gave.
use Rattle.std.proofs.Common.{◌≡◌, ℕ, zero, suc, ◌+◌, ◌<◌, ◌≤◌, List, slice_index_or, subst, arith}
use mathlib.Core.Path.{◌∙◌}
use Rattle.std.specs.Array.{IsFromFnResultFrom, IsFromFnResult}
use denote.Param.Members.{Mut, Called}
use Rattle.scalar.specs.Tab.{tab}
use Rattle.scalar.proofs.Fill.{list_tab, tab_ext}

module _ {F B : Type 0} (g : Mut F (ℕ × Unit {0}) B) (P : F → Type 0) (h : ℕ → B) (m : ℕ) (call : (p : F) (i : ℕ) (y : B) (q : F) → P p → i < m → Called g p (i, tt) y q → P q × (y ≡ h i)) (ys : List B) where
  from : (n i : ℕ) (f : F) → i + n ≤ m → P f → IsFromFnResultFrom g f ys i n → (d : ℕ) (e : B) → d < n → slice_index_or ys (i + d) e ≡ h (i + d)
  from zero i f l p r d e a = absurd (omega arith)
  from (suc n) i f l p (q, y, at, met, rest) zero e a = subst (λ j. slice_index_or ys j e ≡ h j) (omega arith) (at.1 e ∙ (call f i y q p (omega arith) met).1)
  from (suc n) i f l p (q, y, at, met, rest) (suc d) e a = subst (λ j. slice_index_or ys j e ≡ h j) (omega arith) (from n (i + 1) q (omega arith) (call f i y q p (omega arith) met).0 rest d e (omega arith))

  pub made : (f : F) → P f → B → IsFromFnResult g f ys m → ys ≡ tab m h
  made f p e r = list_tab m ys e r.long ∙ tab_ext m (λ k b. subst (λ j. slice_index_or ys j e ≡ h j) (omega arith) (from m 0 f (omega arith) p r.each k e (omega arith)))
