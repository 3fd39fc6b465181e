-- Answers and numbers of several planes together.
use Rattle.std.specs.Prelude.{Bool, true, ◌&&◌, List, [], ◌∷◌, ℕ, ◌+◌}

-- of each of four planes
abbrev pub of_four : {A : Type 0} → (ℕ → A) → List A
of_four f = f 0 ∷ f 1 ∷ f 2 ∷ f 3 ∷ []

abbrev pub all_of : List Bool → Bool
all_of [] = true
all_of (b ∷ bs) = b && all_of bs

abbrev pub sum_of : List ℕ → ℕ
sum_of [] = 0
sum_of (n ∷ ns) = n + sum_of ns
