-- `acread::through::through_dc`: two rows of codes, left by the label at the first bad code.
use mathlib.Core.Path.{◌≡◌}
use Prim.Native.Nat.{◌+◌, ◌-◌, ◌*◌, ◌≤◌}
use Rattle.std.specs.Prelude.{Ok}
use Rattle.acread.proofs.through.CodesGoing.{Going}
use Rattle.acread.proofs.through.through_dc.Given as goal

abbrev pub invariant-loop-k : goal.invariant-loop-k
invariant-loop-k l = (l.k ≤ l.columns) × (l.read ≡ Ok tt) × Going l.dc (8 * l.at) (2 * l.columns) l.c (l.columns - l.k + (2 - (l.j + 1)) * l.columns)

abbrev pub decreases-loop-k : goal.decreases-loop-k
decreases-loop-k l = l.columns - l.k

abbrev pub invariant-codes : goal.invariant-codes
invariant-codes l = (l.j ≤ 2) × (l.read ≡ Ok tt) × Going l.dc (8 * l.at) (2 * l.columns) l.c ((2 - l.j) * l.columns)

abbrev pub decreases-codes : goal.decreases-codes
decreases-codes l = 2 - l.j
