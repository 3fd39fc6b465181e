-- `encplane::plane`: an invariant for each of the two loops, over the blocks so far.
use mathlib.Core.Path.{◌≡◌}
use native.Mathlib.Omega.{arith}
use Rattle.sample.proofs.Lists.{samples_length}
use Rattle.calls.specs.Arguments.{buffers}
use Rattle.calls.specs.Views.{settings_by, plane_by, positions_by}
use Rattle.slice.specs.Plane.{block_coefficients}
use Rattle.planes.proofs.Laws.{corner_fits}
use Rattle.encplane.proofs.Laws.{block_at, part_samples, part_room}
use Rattle.encplane.proofs.Loops.{begun, room, coded, next_row, last_room, done}
use Rattle.encplane.proofs.plane.Goals as goal

pub slice_bounds-fdct_quant_zig-start : goal.slice_bounds-fdct_quant_zig-start
slice_bounds-fdct_quant_zig-start g c =
    omega (arith, c.corner-c.ensures, corner_fits c.loop-j.j c.loop-i.i c.args.h.stride c.loop-j-test.true c.loop-i-test.true, c.requires.plane.rows_long, samples_length {number = g.S.Sample.number} {samples = g.S.Sample.samples} g.met.S.Sample.lists c.args.rows.now)

pub fdct_quant_zig-z-requires : goal.fdct_quant_zig-z-requires
fdct_quant_zig-z-requires g c = (
  part_room c.args.rows.now c.corner-c.result c.args.h.stride
      (omega (arith, c.corner-c.ensures, corner_fits c.loop-j.j c.loop-i.i c.args.h.stride c.loop-j-test.true c.loop-i-test.true, c.requires.plane.rows_long, samples_length {number = g.S.Sample.number} {samples = g.S.Sample.samples} g.met.S.Sample.lists c.args.rows.now)),
  c.level-v.ensures.1,
)

pub code_block-w-requires : goal.code_block-w-requires
code_block-w-requires g c =
    let S = g.S.Sample in
    let σ = settings_by S.depth c.args.s in
    let p = plane_by c.args.h (S.samples c.args.rows.now) in
    let b = buffers c.args.dcs.now c.args.acs.now in
    let at = positions_by c.args.at in
    let z : c.fdct_quant_zig-z.result ≡ block_coefficients S.depth c.args.s.preset p c.loop-j.j c.loop-i.i =
    block_at S.depth c.args.h.place c.args.h.stride c.args.s.preset c.level-v.result c.corner-c.result (S.samples c.args.rows.now) c.loop-j.j c.loop-i.i _ c.level-v.ensures.0 c.corner-c.ensures
    (part_samples S.number S.samples g.met.S.Sample.lists c.args.rows.now c.corner-c.result) (c.fdct_quant_zig-z.ensures c.args.s.preset (omega (arith, c.requires.settings.preset_le)) c.new-k.ensures) in
    room σ p c.loop-j.j c.loop-i.i c.fdct_quant_zig-z.result c.requires.settings c.loop-j-test.true c.loop-i-test.true z
    (c.loop-i.invariant.1 b at (c.loop-j.invariant.1 b at (begun σ p c.begin-w.ensures c.requires)))

pub loop-i-preserved : goal.loop-i-preserved
loop-i-preserved g c =
    let S = g.S.Sample in
    let σ = settings_by S.depth c.args.s in
    let p = plane_by c.args.h (S.samples c.args.rows.now) in
    let z : c.fdct_quant_zig-z.result ≡ block_coefficients S.depth c.args.s.preset p c.loop-j.j c.loop-i.i =
    block_at S.depth c.args.h.place c.args.h.stride c.args.s.preset c.level-v.result c.corner-c.result (S.samples c.args.rows.now) c.loop-j.j c.loop-i.i _ c.level-v.ensures.0 c.corner-c.ensures
    (part_samples S.number S.samples g.met.S.Sample.lists c.args.rows.now c.corner-c.result) (c.fdct_quant_zig-z.ensures c.args.s.preset (omega (arith, c.requires.settings.preset_le)) c.new-k.ensures) in (
      omega (arith, c.loop-i-test.true),
      λ b at x. coded σ p c.loop-j.j c.loop-i.i c.fdct_quant_zig-z.result c.requires.settings z c.code_block-w.ensures (c.loop-i.invariant.1 b at x),
    )

pub loop-j-preserved : goal.loop-j-preserved
loop-j-preserved g c = (
  omega (arith, c.loop-j-test.true),
  λ b at x. next_row (settings_by g.S.Sample.depth c.args.s) (plane_by c.args.h (g.S.Sample.samples c.args.rows.now)) c.loop-j.j c.loop-i.i
      (omega (arith, c.loop-i-test.false, c.loop-i.invariant.0)) (c.loop-i.invariant.1 b at (c.loop-j.invariant.1 b at x)),
)

pub end-requires : goal.end-requires
end-requires g c =
    let σ = settings_by g.S.Sample.depth c.args.s in
    let p = plane_by c.args.h (g.S.Sample.samples c.args.rows.now) in
    last_room σ p c.loop-j.j c.requires.settings (omega (arith, c.loop-j-test.false, c.loop-j.invariant.0))
    (c.loop-j.invariant.1 (buffers c.args.dcs.now c.args.acs.now) (positions_by c.args.at) (begun σ p c.begin-w.ensures c.requires))

pub returns : goal.returns
returns g c =
    let σ = settings_by g.S.Sample.depth c.args.s in
    let p = plane_by c.args.h (g.S.Sample.samples c.args.rows.now) in
    done σ p c.loop-j.j (omega (arith, c.loop-j-test.false, c.loop-j.invariant.0))
    (c.loop-j.invariant.1 (buffers c.args.dcs.now c.args.acs.now) (positions_by c.args.at) (begun σ p c.begin-w.ensures c.requires)) c.end.ensures
