-- Sums and differences of opposite lanes, each twice, as dct.rs makes them by shuffles.
use Rattle.std.specs.Prelude.{List, ℤ}
use Rattle.lanes.specs.Lanes.{mm_adds_epi16, mm_subs_epi16}
use Rattle.lanes.specs.rows.Block.{row_of, block_of}
use Rattle.shuffles.specs.Shuffles.{mm_shuffle_epi32_16, mm_shufflehi_epi16}
use Rattle.frow.specs.declared.sides.RowSides.{RowSides}
use Rattle.frow.specs.declared.sides.SideBlocks.{SideBlocks}

-- lanes 0 to 3 twice (imm 0x44), and lanes 7 to 4 twice (0x1b, 0xee)
unfoldable pub left_of : List ℤ → List ℤ
left_of x = mm_shuffle_epi32_16 x 68

unfoldable pub right_of : List ℤ → List ℤ
right_of x = mm_shuffle_epi32_16 (mm_shufflehi_epi16 x 27) 238

unfoldable pub row_sums_of : List ℤ → List ℤ
row_sums_of x = mm_adds_epi16 (left_of x) (right_of x)

unfoldable pub row_diffs_of : List ℤ → List ℤ
row_diffs_of x = mm_subs_epi16 (left_of x) (right_of x)

abbrev pub row_sides_of : List ℤ → RowSides
row_sides_of x = record { sums = row_sums_of x; diffs = row_diffs_of x }

-- of each row of a block
abbrev pub sums_of : List ℤ → List ℤ
sums_of c = block_of (λ r. row_sums_of (row_of c r))

abbrev pub diffs_of : List ℤ → List ℤ
diffs_of c = block_of (λ r. row_diffs_of (row_of c r))

abbrev pub sides_of : List ℤ → SideBlocks
sides_of c = record { sums = sums_of c; diffs = diffs_of c }
