-- `decplane::plane`: what the two loops do, by the laws of the blocks so far.
use mir.Syntax.{w16}
use mathlib.Core.Path.{◌∙◌}
use native.Mathlib.Omega.{arith}
use borrow.Author.Rules.{sfits_of}
use mir.Facts.{to_z-of_z}
use Rattle.sample.proofs.Lists.{samples_length}
use Rattle.calls.specs.Arguments.{buffers}
use Rattle.calls.specs.Views.{settings_by, plane_by, positions_by}
use Rattle.decplane.proofs.Loops.{Behind, begun, asks, room, next_samples, ended, done}
use Rattle.decplane.proofs.plane.Given.{Over}
use Rattle.decplane.proofs.plane.Goals as goal
use Rattle.decplane.proofs.plane.Goals.{At-loop-j, In-loop-k}

-- the blocks so far in a turn of the outer loop
behind : (g : Over) (c : At-loop-j g) → let a = c.args in
    Behind (settings_by g.S.Sample.depth a.s) (plane_by a.h (g.S.Sample.samples a.rows.now)) (buffers a.dc.now a.ac.now) (positions_by a.at) c.loop-j.j 0 c.loop-j.stand (g.S.Sample.samples c.loop-j.rows)
behind g c = c.loop-j.invariant.1 (positions_by c.args.at) c.requires (begun c.begin-stand.result c.begin-stand.ensures)

-- the blocks so far in a turn of the inner loop
sofar : (g : Over) (c : In-loop-k g) → let a = c.args in
    Behind (settings_by g.S.Sample.depth a.s) (plane_by a.h (g.S.Sample.samples a.rows.now)) (buffers a.dc.now a.ac.now) (positions_by a.at) c.loop-j.j c.loop-k.k c.loop-k.stand (g.S.Sample.samples c.loop-k.rows)
sofar g c =
    c.loop-k.invariant.1 (positions_by c.args.at) (g.S.Sample.samples c.args.rows.now) c.requires
    (c.loop-j.invariant.1 (positions_by c.args.at) c.requires (begun c.begin-stand.result c.begin-stand.ensures))

pub next_block-g-requires : goal.next_block-g-requires
next_block-g-requires g c =
    asks c.loop-j.j c.loop-k.k c.requires c.loop-j-test.true c.loop-k-test.true (sofar g (goal.at.next_block-g-requires g c).In-loop-k)

pub paint-requires : goal.paint-requires
paint-requires g c =
    room c.loop-j.j c.loop-k.k c.loop-k.rows (samples_length g.met.S.Sample.lists c.loop-k.rows) c.requires c.loop-j-test.true c.loop-k-test.true c.corner-c.ensures
    (sofar g (goal.at.paint-requires g c).In-loop-k)

pub loop-k-preserved : goal.loop-k-preserved
loop-k-preserved g c =
    let a = c.args in (
      omega (arith, c.loop-k-test.true),
      λ at r o x.
          next_samples g.met.S.Sample.lists c.loop-j.j c.loop-k.k c.next_block-g.result c.loop-k.rows o c.loop-j-test.true c.loop-k-test.true c.next_block-g.ensures c.corner-c.ensures
          (c.paint.ensures a.s.preset a.h.place c.decode_numbers-q.ensures (to_z-of_z {w = w16} (sfits_of c.lane-v.type_inv) ∙ c.lane-v.ensures)) (c.loop-k.invariant.1 at r o x),
    )

pub ends-requires : goal.ends-requires
ends-requires g c =
    let e = ended c.loop-j.j c.requires c.loop-j.invariant.0 (behind g (goal.at.ends-requires g c).At-loop-j) in
    (omega (arith, e.0), omega (arith, e.1))

pub returns : goal.returns
returns g c =
    done c.loop-j.j c.requires (omega (arith, c.loop-j-test.false, c.loop-j.invariant.0)) (behind g (goal.at.returns g c).At-loop-j) c.ends.ensures.0 c.ends.ensures.1
