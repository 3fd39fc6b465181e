-- `decoder::slice`: one storing pass after the other.
use Rattle.calls.specs.Arguments.{buffers}
use Rattle.calls.specs.Views.{settings_by, rows_by, positions_by}
use Rattle.decoder.proofs.Passes.{good_by, stored_by, Given, ask_0, whole_1, ask_1, whole_2, ask_2, whole_3, ask_3, whole_4}
use Rattle.decoder.proofs.slice.Given.{Over}
use Rattle.decoder.proofs.slice.Goals as goal
use Rattle.decoder.proofs.slice.Goals.{Start}

abbrev given : (g : Over) → Start g → Given
given g s =
    let S = g.S.Sample in
    let a = s.args in
    record {
      σ = settings_by S.depth a.s;
      count = a.f.count;
      r0 = rows_by a.f 0 (S.samples a.p0.now);
      r1 = rows_by a.f 1 (S.samples a.p1.now);
      r2 = rows_by a.f 2 (S.samples a.p2.now);
      r3 = rows_by a.f 3 (S.samples a.p3.now);
      b = buffers a.dc.now a.ac.now;
      at = positions_by a.at;
    }

pub plane-e0-requires : goal.plane-e0-requires
plane-e0-requires g c =
    good_by c.shape-h0.ensures
    (ask_0 (given g (goal.at.plane-e0-requires g c).Start) c.requires)

pub returns-then-count-lt2 : goal.returns-then-count-lt2
returns-then-count-lt2 g c =
    whole_1 (given g (goal.at.returns-then-count-lt2 g c).Start) c.requires (stored_by c.shape-h0.ensures c.plane-e0.ensures) c.if-count-lt2.true

pub plane-e1-requires : goal.plane-e1-requires
plane-e1-requires g c =
    good_by c.shape-h1.ensures
    (ask_1 (given g (goal.at.plane-e1-requires g c).Start) c.requires (stored_by c.shape-h0.ensures c.plane-e0.ensures) c.if-count-lt2.false)

pub returns-then-count-lt3 : goal.returns-then-count-lt3
returns-then-count-lt3 g c =
    whole_2 (given g (goal.at.returns-then-count-lt3 g c).Start) c.requires (stored_by c.shape-h0.ensures c.plane-e0.ensures) c.if-count-lt2.false (stored_by c.shape-h1.ensures c.plane-e1.ensures) c.if-count-lt3.true

pub plane-e2-requires : goal.plane-e2-requires
plane-e2-requires g c =
    good_by c.shape-h2.ensures
    (ask_2 (given g (goal.at.plane-e2-requires g c).Start) c.requires (stored_by c.shape-h0.ensures c.plane-e0.ensures) c.if-count-lt2.false (stored_by c.shape-h1.ensures c.plane-e1.ensures) c.if-count-lt3.false)

pub returns-then-count-lt4 : goal.returns-then-count-lt4
returns-then-count-lt4 g c =
    whole_3 (given g (goal.at.returns-then-count-lt4 g c).Start) c.requires (stored_by c.shape-h0.ensures c.plane-e0.ensures) c.if-count-lt2.false (stored_by c.shape-h1.ensures c.plane-e1.ensures) c.if-count-lt3.false (stored_by c.shape-h2.ensures c.plane-e2.ensures) c.if-count-lt4.true

pub plane-requires : goal.plane-requires
plane-requires g c =
    good_by c.shape-h3.ensures
    (ask_3 (given g (goal.at.plane-requires g c).Start) c.requires (stored_by c.shape-h0.ensures c.plane-e0.ensures) c.if-count-lt2.false (stored_by c.shape-h1.ensures c.plane-e1.ensures) c.if-count-lt3.false (stored_by c.shape-h2.ensures c.plane-e2.ensures) c.if-count-lt4.false)

pub returns : goal.returns
returns g c =
    whole_4 (given g (goal.at.returns g c).Start) c.requires (stored_by c.shape-h0.ensures c.plane-e0.ensures) c.if-count-lt2.false (stored_by c.shape-h1.ensures c.plane-e1.ensures) c.if-count-lt3.false (stored_by c.shape-h2.ensures c.plane-e2.ensures) c.if-count-lt4.false (stored_by c.shape-h3.ensures c.plane.ensures)
