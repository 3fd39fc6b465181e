-- `probe_pairs::probe_pairs_write`: at most 63 bits a pair, so eight bytes a pair are room enough.
use native.Mathlib.Omega.{arith}
use Rattle.std.proofs.Common.{◌≡◌, length, rules}
use Rattle.probe_pairs.specs.Kept.{Grown}
use Rattle.probe_pairs.proofs.Writer.{grown_of, both_long, one_less}
use Rattle.probe_pairs.proofs.probe_pairs_write.Goals as goal

pub loop-run-preserved : goal.loop-run-preserved
loop-run-preserved c =
    let taken = c.taken.ensures c.if-not-taken.false in
    let grown : Grown c.loop-run.acc c.put_run_value-acc.result = grown_of c.loop-run.acc c.put_run_value-acc.result _ (both_long _ _ taken.0 taken.1 taken.2) c.put_run_value-acc.ensures in
    let same : length c.put_run_value-acc.new.out ≡ length c.loop-run.out = search rules in (
      (c.put_run_value-acc.ensures.few, c.put_run_value-acc.ensures.low),
      omega (arith, one_less c.in-Some.ensures.steps.0, grown, same, c.loop-run.invariant.1),
    )
