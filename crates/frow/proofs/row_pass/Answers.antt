-- `frow::row_pass` is `forward_rows_of`: the constant tables are the parts of FTAB1 to FTAB4, and the steps' results join by `row_law`. Assumes nothing.
use Rattle.scalar.specs.Tab.{tab_from}
use Rattle.frow.specs.Rows.{ftab1, ftab2, ftab3, ftab4, table_at}
use Rattle.frow.specs.Parts.{table_part}
use Rattle.frow.proofs.Whole.{row_law}
use Rattle.frow.proofs.row_pass.Goals as goal

pub returns : goal.returns
unfolding table_part tab_from table_at ftab1 ftab2 ftab3 ftab4
returns g c =
    row_law c.args.c c.sides-v.ensures c.pairs-m0.ensures c.swapped.ensures c.pairs-m1.ensures
    c.pairs-m2.ensures c.swapped-2.ensures c.pairs-m3.ensures c.ends.ensures
