-- After k turns w is the first k bytes. Assumes nothing.
use mathlib.Core.Path.{◌≡◌}
use Prim.Native.Nat.{◌*◌}
use Rattle.bits.specs.Bits.{bit_at, num}
use Rattle.bitreader.proofs.words.edge.Given as goal

abbrev pub invariant-loop-k : goal.invariant-loop-k
invariant-loop-k l = l.w ≡ num (8 * l.k) 0 (bit_at l.s) (8 * l.i)
