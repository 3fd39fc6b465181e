-- The inverse transform, over the depth: `ten` is true for 10-bit planes. Document 01: row pass, then column pass; dct.rs has the roundings and shifts.
use Rattle.std.specs.Prelude.{Bool, List, ℕ, ℤ, pos}
use Rattle.scalar.specs.Tab.{tab}
use Rattle.irow.specs.RowPass.{lane, inverse_rows_of}
use Rattle.irow.specs.Stages.{inverse_tab, inverse_mirror_of, paired_rows}
pub use Rattle.sample.specs.Numbers.{row_round, row_shift, col_round, col_corr, col_shift}
use Rattle.paint.specs.Samples.{sample_of}
use Rattle.idct.specs.columns.Columns.{inverse_columns_of}

-- 64 dequantised coefficients in natural order become 64 numbers, level added, not clamped
unfoldable pub inverse_of : Bool → ℤ → List ℤ → List ℤ
inverse_of ten level a = inverse_columns_of (col_round ten) (col_corr ten) (col_shift ten) level (inverse_rows_of (row_round ten) (row_shift ten) a)

-- the same by the stages of the code, on a block whose rows stand in the order 0 2 1 3 4 6 5 7; the level is not added
unfoldable pub inverse_of_paired : Bool → List ℤ → List ℤ
inverse_of_paired ten b = inverse_mirror_of (inverse_columns_of (col_round ten) (col_corr ten) (col_shift ten) (pos 0) (paired_rows (row_round ten) (row_shift ten) b inverse_tab))

-- the samples of a block's numbers
unfoldable pub samples_of : Bool → List ℤ → List ℕ
samples_of ten v = tab 64 (λ i. sample_of ten (lane v i))
