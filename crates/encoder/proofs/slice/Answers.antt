-- `encoder::slice`: one plane after the other.
use Rattle.std.proofs.Common.{◌≡◌, ◌<◌, ℕ, List, Bor, arith}
use Rattle.calls.specs.Arguments.{Plane, buffers}
use Rattle.calls.specs.Views.{settings_by, positions_by, plane_by}
use Rattle.encoder.proofs.Planes.{none_yet, all_done}
use Rattle.encoder.proofs.Slices.{lent, one_longer, turn_ok, turn_done}
use Rattle.encoder.proofs.slice.Goals as goal

pub loop-place-init : goal.loop-place-init
loop-place-init g c = none_yet (settings_by g.S.Sample.depth c.args.s) (buffers c.args.dcs.now c.args.acs.now) (positions_by c.args.at)

pub plane-end-requires : goal.plane-end-requires
plane-end-requires g c =
    let S = g.S.Sample in
    let a = c.args in
    let k = c.loop-place.place in
    turn_ok (settings_by S.depth a.s) (buffers a.dcs.now a.acs.now) (positions_by a.at) a.f.count _ c.requires.planes_ok k _ c.loop-place-test.true
    (one_longer (λ (x : Bor (List g.row.S.Denot)). S.samples x.now) a.f a.p0 a.p1 a.p2 a.p3 c.index-planes-place.result k c.shape.result (omega (arith, c.loop-place-test.true, c.requires.which.1)) c.shape.ensures)
    c.loop-place.invariant

pub loop-place-preserved : goal.loop-place-preserved
loop-place-preserved g c =
    let S = g.S.Sample in
    let a = c.args in
    let k = c.loop-place.place in
    turn_done (settings_by S.depth a.s) (buffers a.dcs.now a.acs.now) (positions_by a.at) a.f.count _ c.requires.planes_ok k _ c.loop-place-test.true
    (one_longer (λ (x : Bor (List g.row.S.Denot)). S.samples x.now) a.f a.p0 a.p1 a.p2 a.p3 c.index-planes-place.result k c.shape.result (omega (arith, c.loop-place-test.true, c.requires.which.1)) c.shape.ensures)
    c.loop-place.invariant c.plane-end.ensures

pub returns : goal.returns
returns g c =
    let S = g.S.Sample in
    let a = c.args in
    all_done (settings_by S.depth a.s) c.loop-place.place a.f.count (lent a.f (S.samples a.p0.now) (S.samples a.p1.now) (S.samples a.p2.now) (S.samples a.p3.now))
    (omega (arith, c.loop-place-test.false, c.loop-place.auto.place-end)) c.loop-place.invariant
