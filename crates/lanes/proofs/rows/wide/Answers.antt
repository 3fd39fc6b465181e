use Rattle.std.proofs.Common.{rules, pos}
use Rattle.lanes.specs.rows.Block.{wide_of}
use Rattle.lanes.proofs.Elements.{by_elements}
use Rattle.lanes.proofs.rows.wide.Goals as goal

pub returns : goal.returns
unfolding wide_of
returns c = by_elements (pos 0) 4 c.part.result (search rules) (λ k h. c.part.ensures k (pos 0) h)
