use Rattle.std.proofs.Common.{rules, pos}
use Rattle.lanes.proofs.Elements.{by_elements}
use Rattle.shuffles.specs.Shuffles.{mm_shuffle_epi32}
use Rattle.shuffles.proofs.shuffle32.Goals as goal

pub returns : goal.returns
unfolding mm_shuffle_epi32
returns c = by_elements (pos 0) 4 c.each.result (search rules) (λ k h. let m = c.each.ensures k (pos 0) h in search rules)
