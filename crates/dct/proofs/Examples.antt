-- A block whose only coefficient is the DC: filled flat and transformed it differs, so the two must not be exchanged.
use mathlib.Core.Bool.{false}
use mathlib.Core.Path.{◌≡◌, refl}
use mathlib.Core.List.{List, [], ◌∷◌}
use Prim.Native.Nat.{◌*◌}
use lib.IntN.{ℤ, pos}
use lib.ListN.{replicate}
use Rattle.scalar.specs.Scalar.{sat16, wrap16, wrap32, add_of, adds_of, subs_of, mulhi_of, mullo_of, sra_of, or_of, packus_of}
use Rattle.scalar.specs.Tab.{tab_from, tab}
use Rattle.irow.specs.RowPass.{tab04, tab17, tab26, tab35, row_lane, inverse_rows_of}
use Rattle.idct.specs.column.Steps.{◌▸◌, inverse_odd_of, inverse_even_of, inverse_sum_of, inverse_diff_of, inverse_join_of, inverse_column_of}
use Rattle.paint.specs.Samples.{flat_sample}
use Rattle.tables.specs.Divisor.{base_matrix, quality_factors, divisor}
use Rattle.quant.specs.Quantise.{dequantised, dequantise_by}
use Rattle.idct.specs.columns.Columns.{inverse_column_at, inverse_columns_of}
use Rattle.idct.specs.Inverse.{inverse_of}
use Rattle.dct.specs.Decode.{block_sample}

-- DC 4 and nothing else
only_dc : List ℤ
only_dc = pos 4 ∷ replicate 63 (pos 0)

flat : flat_sample (pos 0) (pos 4) ≡ 1
unfolding flat_sample packus_of add_of wrap16 sra_of
flat = refl

-- the first column, from the top
transformed : tab 8 (λ k. block_sample false 0 (pos 0) only_dc (8 * k)) ≡ 1 ∷ 1 ∷ 0 ∷ 0 ∷ 0 ∷ 1 ∷ 0 ∷ 0 ∷ []
unfolding only_dc block_sample dequantise_by dequantised divisor base_matrix quality_factors inverse_of inverse_columns_of inverse_column_at inverse_column_of inverse_join_of inverse_odd_of inverse_even_of inverse_sum_of inverse_diff_of ◌▸◌ inverse_rows_of row_lane tab04 tab17 tab26 tab35 tab_from sat16 wrap16 wrap32 adds_of subs_of mulhi_of mullo_of sra_of or_of packus_of
transformed = refl

-- "a DC of 1020 at level 128 gives .. 255 in a flat block"; the sums of 16 bits wrap before the clamp
flat_clamps : flat_sample (pos 128) (pos 1020) ≡ 255
unfolding flat_sample packus_of add_of wrap16 sra_of
flat_clamps = refl

flat_wraps : flat_sample (pos 128) (pos 32764) ≡ 0
unfolding flat_sample packus_of add_of wrap16 sra_of
flat_wraps = refl
