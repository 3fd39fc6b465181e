use Rattle.std.proofs.Common.{rules}
use Rattle.lanes.proofs.rows.Loops.{by_rows}
use Rattle.frow.specs.rounding.Tail.{end_row}
use Rattle.frow.proofs.rounding.ends.Goals as goal

pub returns : goal.returns
returns g c = by_rows c.each_row.result (end_row c.args.m0 c.args.m1 c.args.m2 c.args.m3) (search rules) c.each_row.ensures
