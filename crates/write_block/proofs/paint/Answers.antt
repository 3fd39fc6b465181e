use Rattle.std.proofs.Common.{rules}
use mathlib.Core.Path.{refl, sym, ◌∙◌}
use mir.Facts.{to_z-of_z}
use Rattle.write_block.proofs.Joined.{flat, inverse}
use Rattle.write_block.proofs.paint.Goals as goal

pub returns-then-filled : goal.returns-then-filled
returns-then-filled g c =
    let a = c.args in
    flat a.stride a.q.now a.v a.nat (g.S.Sample.samples a.rows.now) g.S.Sample.depth a.has_ac (sym c.filled.ensures ∙ c.if-filled.true)
    refl (rw (to_z-of_z c.ranges.v) at c.fill.ensures)

pub returns-else-filled : goal.returns-else-filled
returns-else-filled g c =
    let a = c.args in
    inverse a.stride a.q.now a.v a.nat (g.S.Sample.samples a.rows.now) g.S.Sample.depth a.has_ac (sym c.filled.ensures ∙ c.if-filled.false) (search rules)
    c.idct_core-p.ensures (rw (to_z-of_z c.ranges.v) at c.store.ensures)
