-- `quant::Quantiser::quant` puts a row in each turn of the loop inside.
use Prim.Native.Nat.{◌-◌, ◌*◌}
use Rattle.lanes.proofs.rows.Loops.{RowsPut, TwoRows}
use Rattle.quant.proofs.Rows.{row_at}
use Rattle.quant.proofs.quantiser.Quantiser.quant.Given as goal

abbrev pub invariant-loop-h : goal.invariant-loop-h
invariant-loop-h g l = TwoRows (row_at l.k l.w) l.q l.p l.h

abbrev pub decreases-loop-h : goal.decreases-loop-h
decreases-loop-h g l = 2 - l.h

abbrev pub invariant-loop-p : goal.invariant-loop-p
invariant-loop-p g l = RowsPut (row_at l.k l.w) l.q (2 * l.p)

abbrev pub decreases-loop-p : goal.decreases-loop-p
decreases-loop-p g l = 4 - l.p
