-- `acplaces::read_block`: the loop over words.
use Prim.Native.Nat.{◌-◌}
use Rattle.acplaces.specs.Going.{Going}
use Rattle.acplaces.proofs.Going.{bare}
use Rattle.acplaces.proofs.read_block.Given as goal

abbrev pub invariant-loop-place : goal.invariant-loop-place
invariant-loop-place l = Going l.s l.at l.pending (bare l.p) l.place l.nat

abbrev pub decreases-loop-place : goal.decreases-loop-place
decreases-loop-place l = 64 - l.place
