-- The column pass on a whole block: each column by the listed order of steps.
use Rattle.std.specs.Prelude.{List, [], ◌∷◌, ℕ, ◌+◌, ◌/◌, ◌%◌, ℤ, pos, get_or}
use Rattle.scalar.specs.Scalar.{adds_of}
use Rattle.scalar.specs.Tab.{tab}
use Rattle.irow.specs.RowPass.{lane}
use Rattle.idct.specs.column.Steps.{Column, inverse_column_of}

-- number k of a column, from the top
abbrev pub eight_at : Column → ℕ → ℤ
eight_at v k = get_or (v.y0 ∷ v.y1 ∷ v.y2 ∷ v.y3 ∷ v.y4 ∷ v.y5 ∷ v.y6 ∷ v.y7 ∷ []) k (pos 0)

-- column j after the pass
unfoldable pub inverse_column_at : ℤ → ℤ → ℕ → ℤ → List ℤ → ℕ → Column
inverse_column_at round corr shift level w j =
    inverse_column_of round corr shift level (lane w j) (lane w (j + 8)) (lane w (j + 16)) (lane w (j + 24)) (lane w (j + 32)) (lane w (j + 40)) (lane w (j + 48)) (lane w (j + 56))

-- the block's 64 numbers after the pass
unfoldable pub inverse_columns_of : ℤ → ℤ → ℕ → ℤ → List ℤ → List ℤ
inverse_columns_of round corr shift level w = tab 64 (λ i. eight_at (inverse_column_at round corr shift level w (i % 8)) (i / 8))

-- the level added to each number, where the columns were made without
unfoldable pub level_added_of : ℤ → List ℤ → List ℤ
level_added_of level v = tab 64 (λ i. adds_of (lane v i) level)
