use Rattle.std.proofs.Common.{rules, ◌∙◌}
use Rattle.shuffles.specs.Shuffles.{mm_shufflehi_epi16}
use Rattle.lanes.specs.rows.Block.{row_of}
use Rattle.lanes.proofs.rows.Loops.{by_rows}
use Rattle.idct.proofs.columns.Mirror.{mirror_law}
use Rattle.idct.proofs.mirror.Goals as goal

pub returns : goal.returns
returns c =
    by_rows c.each_row.result (λ r. mm_shufflehi_epi16 (row_of c.args.a r) 27) (search rules) c.each_row.ensures
    ∙ mirror_law c.args.a
