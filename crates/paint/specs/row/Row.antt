-- A row of a block, stored.
use Rattle.std.specs.Prelude.{List, ℕ, ◌+◌, get_or, set}

-- four samples, stored from `at` on
abbrev pub put_four : {A : Type 0} → List A → ℕ → A → A → A → A → List A
put_four l at a b c d = set (set (set (set l at a) (at + 1) b) (at + 2) c) (at + 3) d

-- eight samples of p, those from o on, stored from `at` on; `other` stands where p has none
abbrev pub put_row : {A : Type 0} → A → List A → ℕ → List A → ℕ → List A
put_row other l at p o =
    set (set (set (set (set (set (set (set l at (get_or p o other)) (at + 1) (get_or p (o + 1) other)) (at + 2) (get_or p (o + 2) other)) (at + 3) (get_or p (o + 3) other))
    (at + 4) (get_or p (o + 4) other)) (at + 5) (get_or p (o + 5) other)) (at + 6) (get_or p (o + 6) other)) (at + 7) (get_or p (o + 7) other)
