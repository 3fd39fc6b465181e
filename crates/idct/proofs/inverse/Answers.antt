use Rattle.idct.proofs.Bounds.{passes}
use Rattle.idct.proofs.inverse.Goals as goal

pub returns : goal.returns
returns g c =
    let n = g.met.S.Sample.numbers in
    passes g.S.Sample.depth c.args.b n.row_round_is n.row_shift_is n.col_round_is n.col_corr_is n.col_shift_is c.paired_rows-w.ensures c.columns-v.ensures c.mirror.ensures
