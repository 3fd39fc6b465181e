-- What a depth fixes: the numbers of its transforms, the lane of a sample, the sample of a number. `ten` is true for 10-bit samples.
use Rattle.std.specs.Prelude.{Bool, true, false, ℕ, zero, min, ◌*◌, ◌/◌, ℤ, pos, negsuc}
use Rattle.scalar.specs.Scalar.{packus_of}
use Rattle.sample.specs.Depth.{Depth, eight, ten}

abbrev pub row_round : Bool → ℤ
row_round false = pos 1024
row_round true = pos 2048

abbrev pub row_shift : Bool → ℕ
row_shift false = 11
row_shift true = 12

-- the rounding of a column's sums, and of its differences
abbrev pub col_round : Bool → ℤ
col_round false = pos 32
col_round true = pos 16

abbrev pub col_corr : Bool → ℤ
col_corr false = pos 31
col_corr true = pos 15

abbrev pub col_shift : Bool → ℕ
col_shift false = 6
col_shift true = 5

-- "shifts right by 4 (8-bit) or 2 (10-bit)"
abbrev pub dequant_shift : Bool → ℕ
dequant_shift true = 2
dequant_shift false = 4

-- the column pass shifts by 3 for 8-bit samples, by 1 for 10-bit samples
abbrev pub column_shift : Bool → ℕ
column_shift false = 3
column_shift true = 1

-- "Place 0 and 3 take level 128 (8-bit) or 512 (10-bit), places 1 and 2 take 0."
abbrev pub middle_of : Depth → ℤ
middle_of eight = pos 128
middle_of ten = pos 512

-- "An 8-bit block is filled flat when no AC symbol was read for it"; "A 10-bit block is always transformed."
abbrev pub fills_flat : Depth → Bool
fills_flat eight = true
fills_flat ten = false

-- the number of 10 bits nearest to z, at the top of 16 bits
unfoldable pub ten_of : ℤ → ℕ
ten_of (pos n) = min n 1023 * 64
ten_of (negsuc n) = zero

-- 8-bit samples are clamped to 0..255; 10-bit ones to 0..1023, times 64
abbrev pub sample_of : Bool → ℤ → ℕ
sample_of false z = packus_of z
sample_of true z = ten_of z

-- "A u8 sample is its own lane; a u16 sample's lane is the sample shifted right by 6."
abbrev pub lane_of : Depth → ℕ → ℤ
lane_of eight x = pos x
lane_of ten x = pos (x / 64)
