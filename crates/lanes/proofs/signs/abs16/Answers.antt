use Rattle.std.proofs.Common.{rules, pos}
use Rattle.lanes.specs.Lanes.{mm_abs_epi16}
use Rattle.lanes.proofs.Elements.{by_elements}
use Rattle.lanes.proofs.signs.abs16.Goals as goal

pub returns : goal.returns
unfolding mm_abs_epi16
returns c = by_elements (pos 0) 8 c.map1.result (search rules) (λ k h. c.map1.ensures k (pos 0) (pos 0) h)
