-- The stages by which the code makes the row pass: rows spread, products of pairs over the block, sums by rows.
use Rattle.std.specs.Prelude.{cond, List, [], ◌∷◌, ℕ, ◌+◌, ◌-◌, ◌*◌, ◌/◌, ◌%◌, ltb, ℤ, get_or}
use Rattle.scalar.specs.Tab.{tab}
use Rattle.irow.specs.pairs.Pairs.{inverse_spread_of, inverse_pairs_of}
use Rattle.irow.specs.sums.Sums.{rows_from}
use Rattle.irow.specs.RowPass.{lane, row_tab}

-- each row's numbers in the order 0 2 1 3 4 6 5 7: those that are multiplied in pairs stand side by side
abbrev pub paired_place : ℕ → ℕ
paired_place k = get_or (0 ∷ 2 ∷ 1 ∷ 3 ∷ 4 ∷ 6 ∷ 5 ∷ 7 ∷ []) k 0

unfoldable pub pair_up_of : List ℤ → List ℤ
pair_up_of a = tab 64 (λ i. lane a (8 * (i / 8) + paired_place (i % 8)))

-- the rows' tables, for four blocks of spread rows: in block s, number c is multiplied by the table's group group_of s c
-- (0: 0 and 2, 1: 4 and 6, 2: 1 and 3, 3: 5 and 7)
abbrev pub group_of : ℕ → ℕ → ℕ
group_of s c = 2 * (s / 2) + (s + c % 2) % 2

unfoldable pub inverse_tab : List ℤ
inverse_tab = tab 256 (λ j. lane (row_tab (j % 64 / 8)) (8 * group_of (j / 64) (j % 8 / 2) + j % 8))

-- the right half of each row mirrored
abbrev pub mirror_place : ℕ → ℕ
mirror_place k = cond (ltb k 4) k (11 - k)

unfoldable pub inverse_mirror_of : List ℤ → List ℤ
inverse_mirror_of a = tab 64 (λ i. lane a (8 * (i / 8) + mirror_place (i % 8)))

-- the pass, by its stages, on a block whose rows are in pairs
unfoldable pub paired_rows : ℤ → ℕ → List ℤ → List ℤ → List ℤ
paired_rows round shift a t =
    rows_from round shift (inverse_pairs_of (inverse_spread_of a 0) t 0) (inverse_pairs_of (inverse_spread_of a 4) t 64) (inverse_pairs_of (inverse_spread_of a 2) t 128) (inverse_pairs_of (inverse_spread_of a 6) t 192)
