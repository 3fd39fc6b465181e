use Rattle.std.proofs.Common.{rules}
use Rattle.lanes.proofs.Elements.{by_elements}
use Rattle.shuffles.specs.mask.Mask.{weighed}
use Rattle.shuffles.proofs.mask.weigh_all.Goals as goal

pub returns : goal.returns
unfolding weighed
returns c = by_elements 0 64 c.each.result (search rules) (λ k h. let m = c.each.ensures k 0 h in search rules)
