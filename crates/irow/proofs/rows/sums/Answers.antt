use Rattle.std.proofs.Common.{rules, ◌∙◌}
use Rattle.lanes.proofs.rows.Loops.{by_rows}
use Rattle.irow.proofs.sums.Rows.{row_at, sums_law}
use Rattle.irow.proofs.rows.sums.Goals as goal

pub returns : goal.returns
returns g c =
    let a = c.args in
    by_rows c.each_row.result (row_at g.S.Sample.ROW_ROUND g.S.Sample.ROW_SHIFT a.m0 a.m1 a.m2 a.m3) (search rules) c.each_row.ensures
    ∙ sums_law g.S.Sample.ROW_ROUND g.S.Sample.ROW_SHIFT a.m0 a.m1 a.m2 a.m3
