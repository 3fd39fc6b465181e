-- Question 9 at its limits: width and height.
use mathlib.Core.Path.{◌≡◌, refl}
use mathlib.Core.Bool.{true}
use mathlib.Core.List.{List, [], ◌∷◌}
use Prim.Native.Nat.{ℕ}
use lib.ListN.{get_or}
use Rattle.ask.specs.Ask.{first_no}
use Rattle.ask.proofs.AtLimits.{no, limits, holds}
use Rattle.layout.specs.Geometry.{size_question}

unfoldable at_size : List ℕ → ℕ
at_size l = first_no (size_question (get_or l 0 0) (get_or l 1 0) ∷ [])

size_limits : holds at_size
    (limits (16 ∷ 16 ∷ []) (no 9 0 14 ∷ no 9 0 15 ∷ no 9 0 17 ∷ no 9 1 15 ∷ [])
    ∷ limits (7680 ∷ 4320 ∷ []) (no 9 0 7681 ∷ no 9 0 7682 ∷ no 9 1 4321 ∷ [])
    ∷ limits (18 ∷ 17 ∷ []) []
    ∷ [])
    ≡ true
unfolding at_size first_no
size_limits = refl
