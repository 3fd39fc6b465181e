use Rattle.std.proofs.Common.{rules}
use mathlib.Core.Path.{◌∙◌}
use Rattle.lanes.proofs.rows.Loops.{by_rows}
use Rattle.quant.proofs.Paired.{row_at, block_law}
use Rattle.quant.proofs.dequant.dequant.Goals as goal

pub returns : goal.returns
returns g c =
    let a = c.args in
    by_rows c.each_row.result (row_at a.shift a.d.now a.n) (search rules) c.each_row.ensures ∙ block_law a.shift a.d.now a.n
