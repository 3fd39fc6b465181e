use Rattle.std.proofs.Common.{rules}
use Rattle.lanes.specs.rows.Block.{row_of}
use Rattle.lanes.proofs.rows.Loops.{by_rows}
use Rattle.frow.specs.steps.Order.{swap_row}
use Rattle.frow.proofs.steps.swapped.Goals as goal

pub returns : goal.returns
returns c = by_rows c.each_row.result (λ r. swap_row (row_of c.args.a r)) (search rules) c.each_row.ensures
