use Rattle.std.proofs.Common.{rules, pos}
use Rattle.lanes.specs.rows.Block.{row_of}
use Rattle.lanes.proofs.Elements.{by_elements}
use Rattle.lanes.proofs.rows.row.Goals as goal

pub returns : goal.returns
unfolding row_of
returns c = by_elements (pos 0) 8 c.part.result (search rules) (λ k h. c.part.ensures k (pos 0) h)
