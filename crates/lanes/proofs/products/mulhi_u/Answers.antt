use Rattle.std.proofs.Common.{rules, pos}
use Rattle.lanes.specs.Lanes.{mm_mulhi_epu16}
use Rattle.lanes.proofs.Elements.{by_elements}
use Rattle.lanes.proofs.products.mulhi_u.Goals as goal

pub returns : goal.returns
unfolding mm_mulhi_epu16
returns c = by_elements (pos 0) 8 c.map2.result (search rules) (λ k h. c.map2.ensures k (pos 0) (pos 0) h)
