use Rattle.std.proofs.Common.{rules, pos}
use Rattle.lanes.specs.Lanes.{mm_packus_epi16}
use Rattle.lanes.proofs.Elements.{by_elements}
use Rattle.lanes.proofs.packs.packus8.Goals as goal

pub returns : goal.returns
unfolding mm_packus_epi16
returns c = by_elements 0 8 c.map1.result (search rules) (λ k h. c.map1.ensures k (pos 0) 0 h)
