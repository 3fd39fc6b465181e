-- The limits that the questions name, and the questions about one number. Document 01, 'The questions before any work'.
use Rattle.std.specs.Prelude.{Bool, ◌&&◌, ℕ, ◌*◌, ◌%◌, leb, eqb}

-- "Preset 0 to 24?"
abbrev pub preset_max : ℕ
preset_max = 24

abbrev pub preset_ok : ℕ → Bool
preset_ok preset = leb preset preset_max

-- "DC shift 0 to 15?"
abbrev pub shift_max : ℕ
shift_max = 15

abbrev pub shift_ok : ℕ → Bool
shift_ok shift = leb shift shift_max

-- "Plane place 0 to 3, plane count 1 to 4?"
abbrev pub place_max : ℕ
place_max = 3

abbrev pub place_ok : ℕ → Bool
place_ok place = leb place place_max

abbrev pub planes_max : ℕ
planes_max = 4

abbrev pub count_ok : ℕ → Bool
count_ok n = leb 1 n && leb n planes_max

-- "Stride a multiple of 8 from 8 to 7,680?"
abbrev pub stride_max : ℕ
stride_max = 7680

abbrev pub stride_ok : ℕ → Bool
stride_ok stride = eqb (stride % 8) 0 && (leb 8 stride && leb stride stride_max)

-- "A plane is 16 rows of `stride` samples."; "Rows at least 16 x stride"
abbrev pub rows_high : ℕ
rows_high = 16

abbrev pub rows_needed : ℕ → ℕ
rows_needed stride = rows_high * stride

-- "a length that each stream is at most: 4 bytes a block for DC, 197 for AC"
abbrev pub dc_block_bytes : ℕ
dc_block_bytes = 4

abbrev pub ac_block_bytes : ℕ
ac_block_bytes = 197

-- a column of a plane has two blocks
abbrev pub dc_column_bytes : ℕ
dc_column_bytes = 2 * dc_block_bytes

abbrev pub ac_column_bytes : ℕ
ac_column_bytes = 2 * ac_block_bytes

-- "Starts at most 16,777,215"
abbrev pub start_max : ℕ
start_max = 16777215

abbrev pub start_ok : ℕ → Bool
start_ok at = leb at start_max

-- "of streams read only, DC at most 245,760 bytes, AC at most 430,080"
abbrev pub dc_read_max : ℕ
dc_read_max = 245760

abbrev pub dc_read_ok : ℕ → Bool
dc_read_ok n = leb n dc_read_max

abbrev pub ac_read_max : ℕ
ac_read_max = 430080

abbrev pub ac_read_ok : ℕ → Bool
ac_read_ok n = leb n ac_read_max

-- "Width even, 16 to 7,680, height 16 to 4,320?"
abbrev pub side_min : ℕ
side_min = 16

abbrev pub width_max : ℕ
width_max = 7680

abbrev pub height_max : ℕ
height_max = 4320

-- "shown rows: below 270": the slices of the highest frame
abbrev pub slices_max : ℕ
slices_max = 270
