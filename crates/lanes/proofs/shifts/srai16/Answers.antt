use Rattle.std.proofs.Common.{rules, pos}
use Rattle.scalar.specs.Scalar.{sra_of}
use Rattle.scalar.specs.Tab.{lane}
use Rattle.lanes.specs.Lanes.{mm_srai_epi16}
use Rattle.lanes.proofs.Elements.{by_elements}
use Rattle.lanes.proofs.shifts.srai16.Goals as goal

pub returns : goal.returns
unfolding mm_srai_epi16
returns c = by_elements (pos 0) 8 {f = λ k. sra_of (lane c.args.a k) c.args.n} c.map1.result (search rules) (λ k h. let m = c.map1.ensures k (pos 0) (pos 0) h in search rules)
