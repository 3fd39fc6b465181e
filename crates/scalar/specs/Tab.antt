-- A list by a function of the place: how arrays that a loop fills are described.
use Rattle.std.specs.Prelude.{List, [], ◌∷◌, ℕ, zero, suc, ℤ, pos, get_or}

-- f at k, k + 1, ..: n of them
unfoldable pub tab_from : {A : Type 0} → (ℕ → A) → ℕ → ℕ → List A
tab_from f k zero = []
tab_from f k (suc n) = f k ∷ tab_from f (suc k) n

-- f at 0 to n - 1
abbrev pub tab : {A : Type 0} → ℕ → (ℕ → A) → List A
tab n f = tab_from f 0 n

-- number k of a list of signed numbers: lane k of a vector
abbrev pub lane : List ℤ → ℕ → ℤ
lane a k = get_or a k (pos 0)
