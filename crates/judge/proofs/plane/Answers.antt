-- `judge::plane`: one plane of either stream.
use mathlib.Core.Path.{sym, ◌∙◌}
use Prim.Native.Nat.{◌*◌}
use Rattle.bits.specs.Bits.{bit_at}
use Rattle.calls.specs.ReadPlane.{read_blocks}
use Rattle.acread.specs.through.Through.{block_ends, good_ends}
use Rattle.judge.proofs.Planes.{plane_good, both_streams_lem, dc_bad}
use Rattle.judge.proofs.plane.Goals as goal

pub returns-then-dc_good : goal.returns-then-dc_good
returns-then-dc_good c = λ shift.
    let a = c.args in
    both_streams_lem (sym c.dc_good.ensures ∙ c.if-dc_good.true) c.ac_good.ensures
    ∙ sym (plane_good shift (2 * a.columns) a.dc.now a.ac.now a.at.dc a.at.ac)

pub returns-else-dc_good : goal.returns-else-dc_good
returns-else-dc_good c = λ shift.
    let a = c.args in
    c.if-dc_good.false ∙ dc_bad (good_ends (block_ends (read_blocks (2 * a.columns) (bit_at a.ac.now) (8 * a.at.ac) 0))) (sym c.dc_good.ensures ∙ c.if-dc_good.false)
    ∙ sym (plane_good shift (2 * a.columns) a.dc.now a.ac.now a.at.dc a.at.ac)
