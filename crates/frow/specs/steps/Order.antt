-- The products of the row pass: of neighbours, added in pairs.
use Rattle.std.specs.Prelude.{List, ℕ, ◌+◌, ◌*◌, ℤ}
use Rattle.scalar.specs.Scalar.{madd_of}
use Rattle.scalar.specs.Tab.{tab}
use Rattle.lanes.specs.rows.Block.{row_of, block_of}
use Rattle.shuffles.specs.Shuffles.{mm_shuffle_epi32_16}
use Rattle.frow.specs.steps.Sides.{at}

-- the pairs of each half row the other way round (imm 0xb1)
unfoldable pub swap_row : List ℤ → List ℤ
swap_row x = mm_shuffle_epi32_16 x 177

abbrev pub swapped_of : List ℤ → List ℤ
swapped_of a = block_of (λ r. swap_row (row_of a r))

-- products of neighbours, added in pairs
abbrev pub pair_at : List ℤ → List ℤ → ℕ → ℤ
pair_at x t i = madd_of (at x (2 * i)) (at t (2 * i)) (at x (2 * i + 1)) (at t (2 * i + 1))

unfoldable pub forward_pairs_of : List ℤ → List ℤ → List ℤ
forward_pairs_of x t = tab 32 (pair_at x t)
