use Rattle.probe_pairs.specs.Kept.{Going}
use Rattle.probe.proofs.codes.write.Given as goal

abbrev pub invariant-loop-kind : goal.invariant-loop-kind
invariant-loop-kind g l = Going l.acc
