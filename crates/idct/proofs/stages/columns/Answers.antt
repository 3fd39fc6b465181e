use Rattle.idct.proofs.columns.Joined.{columns_law}
use Rattle.idct.proofs.stages.columns.Goals as goal

pub returns : goal.returns
returns g c =
    columns_law g.S.Sample.COL_ROUND g.S.Sample.COL_CORR g.S.Sample.COL_SHIFT c.args.w
    c.row.ensures c.row-2.ensures c.row-3.ensures c.row-4.ensures c.odd-o.ensures
    c.row-5.ensures c.row-6.ensures c.row-7.ensures c.row-8.ensures c.even-e.ensures c.joined.ensures
