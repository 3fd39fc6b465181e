use Rattle.std.proofs.Common.{rules}
use Rattle.shuffles.specs.Shuffles.{mm_shuffle_epi32_16}
use Rattle.lanes.specs.rows.Block.{row_of}
use Rattle.lanes.proofs.rows.Loops.{by_rows}
use Rattle.irow.specs.pairs.Pairs.{spread_by}
use Rattle.irow.proofs.pairs.spread.Goals as goal

pub returns : goal.returns
unfolding spread_by
returns c = by_rows c.each_row.result (λ r. mm_shuffle_epi32_16 (row_of c.args.a.now r) c.args.imm) (search rules) c.each_row.ensures
