-- The forward transform of one 8 by 8 block: 64 lanes, row by row, to 64 coefficients in natural order. Document 01, 'Lanes and the block':
-- "Promises describe the row passes as sums of four products (forward) .., rounded, shifted and saturated; the 32-bit sums wrap.
-- The column passes are the listed order of steps (AP-922 style)."
use Rattle.std.specs.Prelude.{Bool, List, ℕ, zero, suc, ◌+◌, ◌*◌, ◌/◌, ◌%◌, ℤ, neg_ℤ, get_or}
use Rattle.scalar.specs.Tab.{tab}
use Rattle.sample.specs.Depth.{Depth}
use Rattle.sample.specs.Numbers.{lane_of}
pub use Rattle.sample.specs.Numbers.{column_shift}
use Rattle.fdct.specs.column.Steps.{Lanes, forward_column_of}
use Rattle.frow.specs.Rows.{at, forward_rows_of}
pub use Rattle.fdct.specs.level_shift.Level.{level_at}
unfoldable pub use Rattle.fdct.specs.level_shift.Level.{level_shift_of}

-- "A u8 sample is its own lane; a u16 sample's lane is the sample shifted right by 6": the block at the corner of the rows
abbrev pub sample_lane_at : Depth → List ℕ → ℕ → ℕ → ℤ
sample_lane_at depth rows stride i = lane_of depth (get_or rows (i / 8 * stride + i % 8) 0)

unfoldable pub lanes_of : Depth → List ℕ → ℕ → List ℤ
lanes_of depth rows stride = tab 64 (sample_lane_at depth rows stride)

-- the column pass of column j
abbrev pub forward_column_at : ℕ → List ℤ → ℕ → Lanes
forward_column_at shift b j = forward_column_of shift (at b j) (at b (j + 8)) (at b (j + 16)) (at b (j + 24)) (at b (j + 32)) (at b (j + 40)) (at b (j + 48)) (at b (j + 56))

-- row r of a column
abbrev pub lane_at : Lanes → ℕ → ℤ
lane_at v zero = v.v0
lane_at v (suc zero) = v.v1
lane_at v (suc (suc zero)) = v.v2
lane_at v (suc (suc (suc zero))) = v.v3
lane_at v (suc (suc (suc (suc zero)))) = v.v4
lane_at v (suc (suc (suc (suc (suc zero))))) = v.v5
lane_at v (suc (suc (suc (suc (suc (suc zero)))))) = v.v6
lane_at v (suc (suc (suc (suc (suc (suc (suc r))))))) = v.v7

-- the column pass of a block
abbrev pub columns_at : ℕ → List ℤ → ℕ → ℤ
columns_at shift b i = lane_at (forward_column_at shift b (i % 8)) (i / 8)

unfoldable pub forward_columns_of : ℕ → List ℤ → List ℤ
forward_columns_of shift b = tab 64 (columns_at shift b)

-- level shift, column pass, row pass
unfoldable pub transform_of : ℕ → ℤ → List ℤ → List ℤ
transform_of shift add b = forward_rows_of (forward_columns_of shift (level_shift_of add b))

-- the forward transform of a block of a plane with this level; the Bool says 10-bit
unfoldable pub forward_of : Bool → ℤ → List ℤ → List ℤ
forward_of ten level b = transform_of (column_shift ten) (neg_ℤ level) b
