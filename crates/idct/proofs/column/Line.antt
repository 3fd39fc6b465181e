-- A straight line of calls on rows: one step of it.
use mathlib.Core.Path.{◌≡◌, ap, ◌∙◌}
use mathlib.Core.List.{List}
use lib.IntN.{ℤ}
use mir.Syntax.{w16}
use mir.Val.{SFits}
use mir.Facts.{to_z-of_z}
use Rattle.scalar.proofs.Laws.{back}
use Rattle.lanes.specs.Lanes.{mm_set1_epi16}
use Rattle.idct.specs.column.Steps.{◌▸◌}

-- what a call returned is the row that the definition names
pub step : {A B : Type 0} {x r : A} (f : A → B) {z : B} → r ≡ x → z ≡ f r → z ≡ (x ▸ f)
unfolding ◌▸◌
step f e p = p ∙ ap f e

-- the row of one constant x, whose number is y
pub splat_call : {x y : ℤ} {r : List ℤ} → r ≡ mm_set1_epi16 (back w16 x) → SFits w16 x → x ≡ y → r ≡ mm_set1_epi16 y
splat_call e f h = e ∙ ap mm_set1_epi16 (to_z-of_z {w = w16} f ∙ h)
