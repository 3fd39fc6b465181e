-- `decoder::decode_slice`.
use mathlib.Core.Path.{◌≡◌, refl, ap, ◌∙◌}
use mathlib.Core.List.{[], ◌∷◌}
use Rattle.std.proofs.Common.{rules}
use Rattle.std.specs.Prelude.{Err}
use Rattle.ask.specs.Refusals.{number_of}
use Rattle.calls.specs.Arguments.{buffers}
use Rattle.sample.proofs.Lists.{samples_length}
use Rattle.calls.specs.Told.{refusal}
use Rattle.calls.specs.Views.{positions_by, slice_call}
use Rattle.calls.specs.declared.Positions.{Positions}
use Rattle.calls.proofs.Told.{some}
use Rattle.questions.specs.answers.Read.{read_says}
use Rattle.decoder.proofs.Slices.{may_store, slice_refused, slice_accepted}
use Rattle.decoder.proofs.decode_slice.Goals as goal

pub returns-in_err-refused_at : goal.returns-in_err-refused_at
returns-in_err-refused_at g c =
    let S = g.S.Sample in
    let a = c.args in
    let f = c.in_err-refused_at.field-0.0 in
    let e = c.in_err-refused_at.ensures in
    let r : c.from_residual.result ≡ Err f = search rules in
    let lent = (S.samples a.p0.now) ∷ (S.samples a.p1.now) ∷ (S.samples a.p2.now) ∷ (S.samples a.p3.now) ∷ [] in
    ap (λ r. read_says r lent) r
    ∙ ap (λ (x : Positions). refusal (record { number = number_of f.no; at = positions_by x; rows = lent })) e.1
    ∙ slice_refused (slice_call S.depth a.s a.f (S.samples a.p0.now) (S.samples a.p1.now) (S.samples a.p2.now) (S.samples a.p3.now)) (buffers a.dc.now a.ac.now) (positions_by a.at)
    (e.0 ∙ c.slice-asked.ensures S.depth (S.samples a.p0.now) (S.samples a.p1.now) (S.samples a.p2.now) (S.samples a.p3.now) (samples_length {number = S.number} {samples = S.samples} g.met.S.Sample.lists a.p0.now) (samples_length {number = S.number} {samples = S.samples} g.met.S.Sample.lists a.p1.now) (samples_length {number = S.number} {samples = S.samples} g.met.S.Sample.lists a.p2.now) (samples_length {number = S.number} {samples = S.samples} g.met.S.Sample.lists a.p3.now)) (some f.no)

pub slice-requires : goal.slice-requires
slice-requires g c =
    let S = g.S.Sample in
    let a = c.args in
    may_store (slice_call S.depth a.s a.f (S.samples a.p0.now) (S.samples a.p1.now) (S.samples a.p2.now) (S.samples a.p3.now)) (buffers a.dc.now a.ac.now) (positions_by a.at)
    (c.in_ok-refused_at.ensures.0 ∙ c.slice-asked.ensures S.depth (S.samples a.p0.now) (S.samples a.p1.now) (S.samples a.p2.now) (S.samples a.p3.now) (samples_length {number = S.number} {samples = S.samples} g.met.S.Sample.lists a.p0.now) (samples_length {number = S.number} {samples = S.samples} g.met.S.Sample.lists a.p1.now) (samples_length {number = S.number} {samples = S.samples} g.met.S.Sample.lists a.p2.now) (samples_length {number = S.number} {samples = S.samples} g.met.S.Sample.lists a.p3.now)) refl

pub returns : goal.returns
returns g c =
    let S = g.S.Sample in
    let a = c.args in
    slice_accepted (slice_call S.depth a.s a.f (S.samples a.p0.now) (S.samples a.p1.now) (S.samples a.p2.now) (S.samples a.p3.now)) (buffers a.dc.now a.ac.now) (positions_by a.at)
    (c.in_ok-refused_at.ensures.0 ∙ c.slice-asked.ensures S.depth (S.samples a.p0.now) (S.samples a.p1.now) (S.samples a.p2.now) (S.samples a.p3.now) (samples_length {number = S.number} {samples = S.samples} g.met.S.Sample.lists a.p0.now) (samples_length {number = S.number} {samples = S.samples} g.met.S.Sample.lists a.p1.now) (samples_length {number = S.number} {samples = S.samples} g.met.S.Sample.lists a.p2.now) (samples_length {number = S.number} {samples = S.samples} g.met.S.Sample.lists a.p3.now)) refl c.slice.ensures
