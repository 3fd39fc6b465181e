use Rattle.std.proofs.Common.{rules, ◌+◌, ◌*◌, arith}
use Rattle.lanes.proofs.rows.Loops.{rows_next}
use Rattle.lanes.proofs.rows.each_of_two.Goals as goal

pub loop-h-preserved : goal.loop-h-preserved
loop-h-preserved g c =
    (c.type_inv.b, λ j h. rows_next (λ j x. goal.F-post g c.args.f j x) c.loop-h.b (2 * c.loop-p.p + c.loop-h.h) (omega arith) c.loop-h.invariant.0 (search rules) c.put.ensures c.loop-h.invariant.1 c.f.ensures j (omega arith))
