use borrow.Author.Rules.{sfits_of}
use mathlib.Core.Path.{refl}
use Rattle.idct.specs.column.Rows.{inverse_even_rows}
use Rattle.idct.proofs.column.Line.{step, splat_call}
use Rattle.idct.proofs.stages.even.Goals as goal

pub returns : goal.returns
unfolding inverse_even_rows
returns g c =
    step _ c.splat-tan2.ensures (
    step _ (splat_call c.splat-rnd.ensures (sfits_of c.COL_ROUND-round.type_inv) c.COL_ROUND-round.ensures) (
    step _ (splat_call c.splat-cor.ensures (sfits_of c.COL_CORR-corr.type_inv) c.COL_CORR-corr.ensures) (
    step _ c.mulhi-m6.ensures (
    step _ c.mulhi-m2.ensures (
    step _ c.adds-s26.ensures (
    step _ c.subs-d26.ensures (
    step _ c.adds-s04.ensures (
    step _ c.subs-d04.ensures (
    step _ c.adds-a0.ensures (
    step _ c.adds-e0.ensures (
    step _ c.subs-a3.ensures (
    step _ c.adds-a1.ensures (
    step _ c.adds-e1.ensures (
    step _ c.subs-a2.ensures (
    step _ c.adds-e2.ensures (
    step _ c.adds-e3.ensures (
    refl)))))))))))))))))
