-- An answer told by its number, and handed out.
use mathlib.Core.Path.{◌≡◌, refl, ap, ◌∙◌}
use Prim.Native.Nat.{ℕ, zero, suc, ◌<◌}
use native.Mathlib.Omega.{arith}
use Rattle.ask.specs.Refusals.{number_of}
use Rattle.ask.specs.declared.refusal.Refusal.{Refusal}
use Rattle.ask.specs.declared.refusal.Refusal.TheVariants as refused
use Rattle.calls.specs.Told.{Told, refusal, acceptance, told, content}

-- no refusal has the number 0
pub some : (e : Refusal) → 0 < number_of e
some refused.Preset = omega arith
some refused.Shift = omega arith
some refused.Plane = omega arith
some refused.Stride = omega arith
some refused.Rows = omega arith
some refused.Room = omega arith
some refused.Start = omega arith
some refused.Code = omega arith
some refused.Size = omega arith
some refused.Bytes = omega arith
some refused.Format = omega arith
some refused.Count = omega arith
some refused.Limit = omega arith
some refused.Turn = omega arith

no : {A : Type 0} (n : ℕ) (a : A) → 0 < n → refusal a ≡ told n a
unfolding told
no zero a h = absurd (omega arith)
no (suc n) a h = refl

yes : {A : Type 0} (n : ℕ) (a : A) → n ≡ 0 → acceptance a ≡ told n a
unfolding told
yes zero a h = refl
yes (suc n) a h = absurd (omega arith)

-- an answer that is the definition's, by its number
module _ {A : Type 0} (number : A → ℕ) {a k : A} (e : a ≡ k) where
  pub told_refused : 0 < number a → refusal a ≡ told (number k) k
  told_refused h = no (number a) a h ∙ ap (λ (x : A). told (number x) x) e

  pub told_accepted : number a ≡ 0 → acceptance a ≡ told (number k) k
  told_accepted h = yes (number a) a h ∙ ap (λ (x : A). told (number x) x) e

content_told : {A : Type 0} (n : ℕ) (a : A) → content (told n a) ≡ a
unfolding told
content_told zero a = refl
content_told (suc n) a = refl

-- what is handed out of an answer told is the answer
pub handed_out : {A : Type 0} (n : ℕ) {a k : A} {t : Told A} → a ≡ content t → t ≡ told n k → a ≡ k
handed_out n {k = k} e f = e ∙ ap content f ∙ content_told n k
