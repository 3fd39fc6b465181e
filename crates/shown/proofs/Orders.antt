-- The questions of shown rows at their limits, and their order: stride, slice, samples of the new and of the held picture.
use mathlib.Core.Path.{◌≡◌, refl}
use mathlib.Core.Bool.{true}
use mathlib.Core.List.{List, [], ◌∷◌, ◌++◌}
use Prim.Native.Nat.{ℕ}
use lib.ListN.{get_or}
use Rattle.ask.specs.Ask.{first_no}
use Rattle.ask.proofs.AtLimits.{Broken, no, limits, holds}
use Rattle.shown.specs.Shown.{shown_questions}

unfoldable of_shown : List ℕ → ℕ
of_shown l = let at : ℕ → ℕ = λ k. get_or l k 0 in first_no (shown_questions (at 0) (at 1) (at 2) (at 3))

abbrev stride_broken : List Broken
stride_broken = no 4 0 0 ∷ no 4 0 7 ∷ no 4 0 12 ∷ no 4 0 7688 ∷ []

-- 270 slices of 16 rows of 8 samples are 34,560 samples
shown_limits : holds of_shown
    (limits (8 ∷ 269 ∷ 34560 ∷ 34560 ∷ []) (stride_broken ++ (no 5 0 16 ∷ no 5 2 34559 ∷ no 5 3 34559 ∷ no 5 1 270 ∷ []))
    ∷ limits (8 ∷ 269 ∷ 34688 ∷ 34688 ∷ []) (stride_broken ++ (no 5 2 34559 ∷ no 5 3 34559 ∷ no 14 1 270 ∷ []))
    ∷ limits (7680 ∷ 0 ∷ 122880 ∷ 122880 ∷ []) (no 4 0 7688 ∷ no 5 2 122879 ∷ no 5 3 122879 ∷ no 5 1 1 ∷ [])
    ∷ [])
    ≡ true
unfolding of_shown first_no shown_questions
shown_limits = refl
