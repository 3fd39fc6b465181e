use Prim.Native.Nat.{◌-◌}
use Rattle.scalar.proofs.Fill.{Filled}
use Rattle.quant.specs.Quantise.{coefficient, with_sign}
use Rattle.quant.specs.Rows.{multiplied_at}
use Rattle.quant.proofs.quant_row.Given as goal

abbrev pub invariant-loop-k : goal.invariant-loop-k
invariant-loop-k l = Filled 8 (λ i. with_sign (coefficient l.x i) (multiplied_at l.c l.r l.s l.x i)) l.q l.k

abbrev pub decreases-loop-k : goal.decreases-loop-k
decreases-loop-k l = 8 - l.k
