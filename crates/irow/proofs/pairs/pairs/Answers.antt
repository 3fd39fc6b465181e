use Rattle.std.proofs.Common.{rules, pos}
use Rattle.lanes.proofs.Elements.{by_elements}
use Rattle.irow.specs.pairs.Pairs.{inverse_pairs_of}
use Rattle.irow.proofs.pairs.pairs.Goals as goal

pub returns : goal.returns
unfolding inverse_pairs_of
returns c = by_elements (pos 0) 32 c.each.result (search rules) (λ k h. let m = c.each.ensures k (pos 0) h in search rules)
