-- An array by its elements.
use Rattle.std.proofs.Common.{◌≡◌, ℕ, ◌<◌, List, length, slice_index_or}
use mathlib.Core.Path.{◌∙◌}
use Rattle.scalar.specs.Tab.{tab}
use Rattle.scalar.proofs.Fill.{list_tab, tab_ext}

pub by_elements : {A : Type 0} (d : A) (n : ℕ) {f : ℕ → A} (ys : List A) → length ys ≡ n → ((k : ℕ) → k < n → slice_index_or ys k d ≡ f k) → ys ≡ tab n f
by_elements d n ys l h = list_tab n ys d l ∙ tab_ext n h
