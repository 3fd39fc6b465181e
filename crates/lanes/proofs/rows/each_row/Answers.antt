use Rattle.std.proofs.Common.{rules, arith}
use Rattle.lanes.proofs.rows.Loops.{rows_next}
use Rattle.lanes.proofs.rows.each_row.Goals as goal

pub loop-r-preserved : goal.loop-r-preserved
loop-r-preserved g c =
    (c.type_inv.b, rows_next (λ j x. goal.F-post g c.args.f j x) c.loop-r.b c.loop-r.r (omega arith) c.loop-r.invariant.0 (search rules) c.put.ensures c.loop-r.invariant.1 c.f.ensures)
