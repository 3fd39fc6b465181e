use mathlib.Core.Path.{refl}
use Rattle.idct.specs.column.Rows.{inverse_odd_rows}
use Rattle.idct.proofs.column.Line.{step}
use Rattle.idct.proofs.stages.odd.Goals as goal

pub returns : goal.returns
unfolding inverse_odd_rows
returns g c =
    step _ c.splat-tan1.ensures (
    step _ c.splat-tan3.ensures (
    step _ c.splat-cos4.ensures (
    step _ c.splat-one.ensures (
    step _ c.mulhi-m5.ensures (
    step _ c.mulhi-m3.ensures (
    step _ c.mulhi-m7.ensures (
    step _ c.adds-a5.ensures (
    step _ c.mulhi-m1.ensures (
    step _ c.adds-a3.ensures (
    step _ c.adds-s35.ensures (
    step _ c.subs-d35.ensures (
    step _ c.subs-d17.ensures (
    step _ c.adds-s17.ensures (
    step _ c.adds-t0.ensures (
    step _ c.adds-o0.ensures (
    step _ c.subs-u.ensures (
    step _ c.subs-v0.ensures (
    step _ c.adds-v.ensures (
    step _ c.adds-o3.ensures (
    step _ c.adds-p.ensures (
    step _ c.mulhi-mp.ensures (
    step _ c.subs-q.ensures (
    step _ c.mulhi-mq.ensures (
    step _ c.adds-p1.ensures (
    step _ c.or16-o1.ensures (
    step _ c.adds-q1.ensures (
    step _ c.or16-o2.ensures (
    refl))))))))))))))))))))))))))))
