-- `probe_pairs::probe_pairs_write`: at most 63 bits a pair, so eight bytes a pair are room enough.
use Rattle.std.proofs.Common.{◌+◌, ◌*◌, ◌≤◌, length}
use Rattle.probe_pairs.specs.Kept.{Going}
use Rattle.probe_pairs.proofs.probe_pairs_write.Given as goal

abbrev pub invariant-loop-run : goal.invariant-loop-run
invariant-loop-run l = Going l.acc × (8 * l.acc.pos + l.acc.nbits + 63 * length l.run-iterator.a.rest.now ≤ 8 * length l.out)
