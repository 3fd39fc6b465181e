use Rattle.std.proofs.Common.{rules, pos}
use Rattle.lanes.specs.Lanes.{mm_packs_epi32}
use Rattle.lanes.proofs.Elements.{by_elements}
use Rattle.lanes.proofs.packs.packs32.Goals as goal

pub returns : goal.returns
unfolding mm_packs_epi32
returns c = by_elements (pos 0) 8 c.each.result (search rules) (λ k h. let m = c.each.ensures k (pos 0) h in search rules)
