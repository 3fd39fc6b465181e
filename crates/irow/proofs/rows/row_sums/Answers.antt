use borrow.Author.Rules.{sfits_of}
use mathlib.Core.Path.{ap, ◌∙◌}
use mir.Syntax.{w32}
use mir.Facts.{to_z-of_z}
use Rattle.lanes.specs.Lanes.{mm_set1_epi32, mm_srai_epi32}
use Rattle.irow.proofs.sums.Rows.{row_law}
use Rattle.irow.proofs.rows.row_sums.Goals as goal

pub returns : goal.returns
returns g c =
    let a = c.args in
    row_law g.S.Sample.ROW_ROUND g.S.Sample.ROW_SHIFT a.x0 a.x1 a.x2 a.x3
    (c.splat32-half.ensures ∙ ap mm_set1_epi32 (to_z-of_z {w = w32} (sfits_of c.ROW_ROUND-round.type_inv) ∙ c.ROW_ROUND-round.ensures))
    c.add32-rounded.ensures c.add32-even.ensures c.add32-odd.ensures c.add32-sum.ensures
    (c.srai32-low.ensures ∙ ap (mm_srai_epi32 c.add32-sum.result) c.ROW_SHIFT-shift.ensures) c.sub32-diff.ensures
    (c.srai32-high.ensures ∙ ap (mm_srai_epi32 c.sub32-diff.result) c.ROW_SHIFT-shift.ensures) c.packs32.ensures
