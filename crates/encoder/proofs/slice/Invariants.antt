-- `encoder::slice`: the first planes are coded, each where the one before ended.
use lib.ListN.{take}
use Rattle.calls.specs.Arguments.{buffers}
use Rattle.calls.specs.Views.{settings_by, positions_by}
use Rattle.encoder.proofs.Planes.{SoFar}
use Rattle.encoder.proofs.Slices.{lent}
use Rattle.encoder.proofs.slice.Given as goal

abbrev pub invariant-loop-place : goal.invariant-loop-place
invariant-loop-place g l =
    let S = g.S.Sample in
    SoFar (settings_by S.depth l.fn.s) (buffers l.fn.dcs l.fn.acs) (positions_by l.fn.at)
    (take l.place (lent l.fn.f (S.samples l.fn.p0) (S.samples l.fn.p1) (S.samples l.fn.p2) (S.samples l.fn.p3))) (positions_by l.end) (buffers l.dcs l.acs)
