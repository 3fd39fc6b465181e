-- `acread::through::through_ac`: two rows of blocks, left by the label at the first bad code.
use mathlib.Core.Path.{◌≡◌}
use Prim.Native.Nat.{◌+◌, ◌-◌, ◌*◌, ◌≤◌}
use Rattle.std.specs.Prelude.{Ok}
use Rattle.acread.proofs.through.Going.{Going}
use Rattle.acread.proofs.through.through_ac.Given as goal

abbrev pub invariant-loop-k : goal.invariant-loop-k
invariant-loop-k l = (l.k ≤ l.columns) × (l.read ≡ Ok tt) × Going l.ac (8 * l.at) (2 * l.columns) l.c l.pending (l.columns - l.k + (2 - (l.j + 1)) * l.columns)

abbrev pub decreases-loop-k : goal.decreases-loop-k
decreases-loop-k l = l.columns - l.k

abbrev pub invariant-rows : goal.invariant-rows
invariant-rows l = (l.j ≤ 2) × (l.read ≡ Ok tt) × Going l.ac (8 * l.at) (2 * l.columns) l.c l.pending ((2 - l.j) * l.columns)

abbrev pub decreases-rows : goal.decreases-rows
decreases-rows l = 2 - l.j
