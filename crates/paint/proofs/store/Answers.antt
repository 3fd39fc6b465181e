use native.Mathlib.Omega.{arith}
use mathlib.Core.Path.{◌≡◌, ◌∙◌}
use Prim.Native.Nat.{◌*◌}
use Rattle.paint.specs.Paint.{sample_or}
use Rattle.paint.proofs.Pixels.{put_none, put_row_lem, put_all_lem}
use Rattle.paint.proofs.store.Goals as goal

pub loop-i-init : goal.loop-i-init
loop-i-init g c =
    let a = c.args in
    (omega arith, λ d. put_none d a.stride a.p.now a.rows.now c.requires.wide c.requires.room_for_block)

pub loop-i-preserved : goal.loop-i-preserved
loop-i-preserved g c =
    let a = c.args in
    let l = c.loop-i in (
      omega arith,
      λ d. put_row_lem d a.stride a.p.now a.rows.now c.requires.wide c.requires.room_for_block l.i l.rows (omega arith) (l.invariant.1 d) (c.put.ensures d),
    )

pub returns : goal.returns
returns g c d =
    let a = c.args in
    let k : c.loop-i.i * 8 ≡ 64 = omega arith in
    (rw k at c.loop-i.invariant.1 d) ∙ put_all_lem a.stride (sample_or a.p.now d) a.rows.now
