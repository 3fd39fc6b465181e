-- The products of the row pass, in pairs.
use Rattle.std.specs.Prelude.{List, ℕ, ◌+◌, ◌*◌, ◌/◌, ◌%◌, ℤ}
use Rattle.scalar.specs.Scalar.{madd_of}
use Rattle.scalar.specs.Tab.{tab, lane}
use Rattle.shuffles.specs.Shuffles.{mm_shuffle_epi32_16}
use Rattle.lanes.specs.rows.Block.{row_of, block_of}

-- where place k of a spread row comes from: the pair that starts at `from`, or that four places on
abbrev pub spread_place : ℕ → ℕ → ℕ
spread_place from k = (from + 4 * (k % 4 / 2)) % 8 + k % 2

-- of each row, these two pairs in turn, twice
unfoldable pub inverse_spread_of : List ℤ → ℕ → List ℤ
inverse_spread_of a from = tab 64 (λ i. lane a (8 * (i / 8) + spread_place from (i % 8)))

-- each row's pairs in the order that imm chooses
unfoldable pub spread_by : List ℤ → ℕ → List ℤ
spread_by a imm = block_of (λ r. mm_shuffle_epi32_16 (row_of a r) imm)

-- neighbours multiplied and added; the table's numbers are those from `from` on
unfoldable pub inverse_pairs_of : List ℤ → List ℤ → ℕ → List ℤ
inverse_pairs_of x t from = tab 32 (λ i. madd_of (lane x (2 * i + 1)) (lane t (from + (2 * i + 1))) (lane x (2 * i)) (lane t (from + 2 * i)))
