use Rattle.std.proofs.Common.{rules}
use Rattle.lanes.specs.rows.Block.{row_of}
use Rattle.lanes.proofs.rows.Loops.{by_rows}
use Rattle.frow.specs.sides.Halves.{row_sums_of, row_diffs_of}
use Rattle.frow.proofs.Lanewise.{make_blocks, blocks_eq}
use Rattle.frow.proofs.sides.sides.Goals as goal

pub returns : goal.returns
unfolding make_blocks
returns g c =
    let a = c.args.c in
    blocks_eq
    (by_rows c.each_of_two-sums.result (λ r. row_sums_of (row_of a r)) (search rules) c.each_of_two-sums.ensures)
    (by_rows c.each_of_two-diffs.result (λ r. row_diffs_of (row_of a r)) (search rules) c.each_of_two-diffs.ensures)
