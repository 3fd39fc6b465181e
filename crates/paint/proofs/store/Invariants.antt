use Prim.Native.Nat.{◌≤◌}
use Rattle.paint.proofs.Pixels.{RowsStored}
use Rattle.paint.proofs.store.Given as goal

abbrev pub invariant-loop-i : goal.invariant-loop-i
invariant-loop-i g l = (l.i ≤ 8) × RowsStored l.stride l.p l.i l.initial.rows l.rows
