use mathlib.Core.Path.{◌≡◌, sym, ap, ◌∙◌}
use lib.ListN.{length}
use mir.Facts.{to_z-of_z}
use Rattle.sample.specs.Depth.{is_ten}
use Rattle.sample.proofs.Lists.{samples_length}
use Rattle.paint.proofs.Pixels.{samples_stored}
use Rattle.idct.specs.columns.Columns.{level_added_of}
use Rattle.idct.specs.Inverse.{samples_of}
use Rattle.idct.proofs.Bounds.{length_samples}
use Rattle.dct.proofs.Blocks.{store_law}
use Rattle.dct.proofs.inverse.store.Goals as goal

pub returns : goal.returns
returns g c =
    let a = c.args in
    let ten = is_ten g.S.Sample.depth in
    let lists = g.met.S.Sample.lists in
    let p = c.samples-p.result in
    let e : g.S.Sample.samples p ≡ samples_of ten (level_added_of a.level a.v) = rw (to_z-of_z c.ranges.level) at c.samples-p.ensures in
    samples_stored lists a.stride p a.rows.now (sym (samples_length lists p) ∙ ap length e ∙ length_samples ten (level_added_of a.level a.v)) c.store.ensures
    ∙ store_law ten a.stride a.level a.v (g.S.Sample.samples a.rows.now) e
