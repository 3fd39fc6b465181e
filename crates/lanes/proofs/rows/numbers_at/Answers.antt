use Rattle.std.proofs.Common.{rules}
use Rattle.lanes.specs.rows.Block.{numbers_of}
use Rattle.lanes.proofs.Elements.{by_elements}
use Rattle.lanes.proofs.rows.numbers_at.Goals as goal

pub returns : goal.returns
unfolding numbers_of
returns c = by_elements 0 8 c.part.result (search rules) (λ k h. c.part.ensures k 0 h)
