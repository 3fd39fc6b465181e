use Rattle.std.proofs.Common.{rules, pos}
use Rattle.lanes.specs.Lanes.{mm_madd_epi16}
use Rattle.lanes.proofs.Elements.{by_elements}
use Rattle.lanes.proofs.pair_products.madd.Goals as goal

pub returns : goal.returns
unfolding mm_madd_epi16
returns c = by_elements (pos 0) 4 c.each.result (search rules) (λ k h. let m = c.each.ensures k (pos 0) h in search rules)
