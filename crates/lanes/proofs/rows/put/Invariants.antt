use mathlib.Core.Path.{◌≡◌}
use Prim.Native.Nat.{◌*◌, ◌≤◌}
use lib.Seq.{sets}
use Rattle.scalar.specs.Tab.{tab, lane}
use Rattle.lanes.proofs.rows.put.Given as goal

abbrev pub invariant-loop-k : goal.invariant-loop-k
invariant-loop-k l = (l.k ≤ 8) × (l.b ≡ sets l.initial.b (8 * l.r) (tab l.k (lane l.x)))
