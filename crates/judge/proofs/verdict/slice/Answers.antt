-- `judge::verdict::slice`: the questions, then the judge.
use mathlib.Core.Path.{◌≡◌, ◌∙◌}
use mathlib.Core.List.{List}
use Prim.Native.Nat.{ℕ}
use lib.ListN.{get_or, replicate, length-replicate}
use Rattle.std.proofs.Common.{rules}
use Rattle.ask.specs.Ask.{first_no}
use Rattle.ask.specs.Refusals.{number_of, given}
use Rattle.calls.specs.Arguments.{Depth, eight, buffers, PerStream, Buffers}
use Rattle.calls.specs.Questions.{reading_questions}
use Rattle.calls.specs.Views.{slice_call, positions_by}
use Rattle.calls.specs.declared.Settings.{Settings}
use Rattle.calls.specs.declared.Four.{Four}
use Rattle.judge.proofs.verdict.Slices.{Given, may_judge, slice_no, slice_judged}
use Rattle.judge.proofs.verdict.slice.Goals as goal

abbrev lent : Depth → Settings → Four → Buffers → PerStream → List ℕ → List ℕ → List ℕ → List ℕ → Given
lent depth s f b at p0 p1 p2 p3 = record { depth = depth; s = s; f = f; p0 = p0; p1 = p1; p2 = p2; p3 = p3; b = b; at = at }

pub returns-in_err-reading_slice : goal.returns-in_err-reading_slice
returns-in_err-reading_slice c = λ depth p0 p1 p2 p3 h0 h1 h2 h3.
    let a = c.args in
    let e = c.in_err-reading_slice.field-0.0 in
    let g : given c.from_residual.result ≡ number_of e = search rules in
    g ∙ slice_no (lent depth a.s a.f (buffers a.dc.now a.ac.now) (positions_by a.at) p0 p1 p2 p3) e
    (c.in_err-reading_slice.ensures depth p0 p1 p2 p3 h0 h1 h2 h3
    ∙ (λ i. first_no (reading_questions (slice_call depth a.s a.f p0 p1 p2 p3) (c.of.ensures.lengths i) (c.of.ensures.starts i))))

-- rows of that many samples, whatever they are
pub slice-requires : goal.slice-requires
slice-requires c =
    let a = c.args in
    let p0 : List ℕ = replicate (get_or a.rows 0 0) 0 in
    let p1 : List ℕ = replicate (get_or a.rows 1 0) 0 in
    let p2 : List ℕ = replicate (get_or a.rows 2 0) 0 in
    let p3 : List ℕ = replicate (get_or a.rows 3 0) 0 in
    may_judge (lent eight a.s a.f (buffers a.dc.now a.ac.now) (positions_by a.at) p0 p1 p2 p3)
    (c.in_ok-reading_slice.ensures eight p0 p1 p2 p3 (length-replicate (get_or a.rows 0 0) 0) (length-replicate (get_or a.rows 1 0) 0) (length-replicate (get_or a.rows 2 0) 0) (length-replicate (get_or a.rows 3 0) 0)
    ∙ (λ i. first_no (reading_questions (slice_call eight a.s a.f p0 p1 p2 p3) (c.of.ensures.lengths i) (c.of.ensures.starts i))))

pub returns : goal.returns
returns c = λ depth p0 p1 p2 p3 h0 h1 h2 h3.
    let a = c.args in
    slice_judged (lent depth a.s a.f (buffers a.dc.now a.ac.now) (positions_by a.at) p0 p1 p2 p3) c.slice.result
    (c.in_ok-reading_slice.ensures depth p0 p1 p2 p3 h0 h1 h2 h3
    ∙ (λ i. first_no (reading_questions (slice_call depth a.s a.f p0 p1 p2 p3) (c.of.ensures.lengths i) (c.of.ensures.starts i))))
    c.slice.ensures c.ask.ensures
