use Rattle.irow.proofs.Pass.{paired_law}
use Rattle.irow.proofs.rows.paired_rows.Goals as goal

pub returns : goal.returns
returns g c =
    paired_law g.S.Sample.ROW_ROUND g.S.Sample.ROW_SHIFT c.args.b.now c.table-t.result c.table-t.ensures
    c.spread-x0.ensures c.pairs-m0.ensures c.spread-x1.ensures c.pairs-m1.ensures c.spread-x2.ensures c.pairs-m2.ensures c.spread-x3.ensures c.pairs-m3.ensures
    c.sums.ensures
