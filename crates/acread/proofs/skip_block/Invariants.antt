-- `acread::skip_block`: the loop over a block's symbols.
use Prim.Native.Nat.{◌-◌, ◌<◌, ◌^◌}
use Rattle.acread.specs.Going.{Going}
use Rattle.acread.proofs.skip_block.Given as goal

abbrev pub invariant-loop-place : goal.invariant-loop-place
invariant-loop-place l = (l.initial.c.pos < 2 ^ 59) × Going l.s l.initial.c.pos l.pending l.c l.place

abbrev pub decreases-loop-place : goal.decreases-loop-place
decreases-loop-place l = 64 - l.place
