-- Lanes, each read back from its bits.
use mathlib.Core.Path.{◌≡◌, refl}
use mathlib.Core.List.{[], ◌∷◌}
use lib.IntN.{ℤ}
use mir.Syntax.{Width}
use mir.Val.{SFits}
use mir.Facts.{to_z-of_z}
use Rattle.scalar.proofs.Laws.{back}

-- eight lanes, each read back from its bits
pub eight_back : {w : Width} {a b c d e f g h : ℤ} → SFits w a → SFits w b → SFits w c → SFits w d → SFits w e → SFits w f → SFits w g → SFits w h
    → back w a ∷ back w b ∷ back w c ∷ back w d ∷ back w e ∷ back w f ∷ back w g ∷ back w h ∷ [] ≡ a ∷ b ∷ c ∷ d ∷ e ∷ f ∷ g ∷ h ∷ []
eight_back p0 p1 p2 p3 p4 p5 p6 p7 = rw (to_z-of_z p0, to_z-of_z p1, to_z-of_z p2, to_z-of_z p3, to_z-of_z p4, to_z-of_z p5, to_z-of_z p6, to_z-of_z p7) refl
