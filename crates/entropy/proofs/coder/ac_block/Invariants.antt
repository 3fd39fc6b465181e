-- `entropy::coder::ac_block`: a turn codes the next non-zero place; the mask of the places after it is left.
use Prim.Native.Nat.{◌-◌}
use Rattle.entropy.proofs.block.Walk.{Going}
use Rattle.entropy.proofs.coder.ac_block.Given as goal

abbrev pub invariant-loop-m : goal.invariant-loop-m
invariant-loop-m g l = Going l.z l.initial.a l.initial.out l.initial.run l.a l.out l.run l.m l.at

abbrev pub decreases-loop-m : goal.decreases-loop-m
decreases-loop-m g l = 64 - l.at
