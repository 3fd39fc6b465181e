-- `judge::verdict::plane`: the questions, then the judge.
use mathlib.Core.Path.{◌≡◌, ◌∙◌}
use lib.ListN.{replicate, length-replicate}
use Rattle.std.proofs.Common.{rules}
use Rattle.ask.specs.Ask.{first_no}
use Rattle.ask.specs.Refusals.{number_of, given}
use Rattle.calls.specs.Arguments.{eight, buffers}
use Rattle.calls.specs.Questions.{reading_questions}
use Rattle.calls.specs.Views.{plane_call, positions_by}
use Rattle.judge.proofs.verdict.Planes.{may_judge, plane_no, plane_judged}
use Rattle.judge.proofs.verdict.plane.Goals as goal

pub returns-in_err-reading_plane : goal.returns-in_err-reading_plane
returns-in_err-reading_plane c = λ depth samples h.
    let a = c.args in
    let e = c.in_err-reading_plane.field-0.0 in
    let g : given c.from_residual.result ≡ number_of e = search rules in
    g ∙ plane_no depth a.s a.h samples (buffers a.dc.now a.ac.now) (positions_by a.at) e
    (c.in_err-reading_plane.ensures depth samples h
    ∙ (λ i. first_no (reading_questions (plane_call depth a.s a.h samples) (c.of.ensures.lengths i) (c.of.ensures.starts i))))

-- rows of that many samples, whatever they are
pub plane-requires : goal.plane-requires
plane-requires c =
    let a = c.args in
    let samples = replicate a.rows 0 in
    may_judge eight a.s a.h samples (buffers a.dc.now a.ac.now) (positions_by a.at)
    (c.in_ok-reading_plane.ensures eight samples (length-replicate a.rows 0)
    ∙ (λ i. first_no (reading_questions (plane_call eight a.s a.h samples) (c.of.ensures.lengths i) (c.of.ensures.starts i))))

pub returns : goal.returns
returns c = λ depth samples h.
    let a = c.args in
    plane_judged depth a.s a.h samples (buffers a.dc.now a.ac.now) (positions_by a.at) c.plane.result
    (c.in_ok-reading_plane.ensures depth samples h
    ∙ (λ i. first_no (reading_questions (plane_call depth a.s a.h samples) (c.of.ensures.lengths i) (c.of.ensures.starts i))))
    (c.plane.ensures a.s.shift) c.ask.ensures
