-- `encoder::encode_slice`.
use mathlib.Core.Path.{◌≡◌, refl, sym, ap, ◌∙◌}
use Rattle.std.proofs.Common.{rules}
use Rattle.std.specs.Prelude.{Err}
use Rattle.ask.specs.Ask.{first_no}
use Rattle.ask.specs.Refusals.{number_of}
use Rattle.calls.specs.Arguments.{buffers}
use Rattle.sample.proofs.Lists.{samples_length}
use Rattle.calls.specs.Told.{refusal}
use Rattle.calls.specs.Views.{slice_call, positions_by}
use Rattle.calls.specs.declared.Positions.{Positions}
use Rattle.calls.proofs.Told.{some}
use Rattle.slice.specs.Room.{coding_questions}
use Rattle.questions.specs.answers.Code.{code_says}
use Rattle.encoder.proofs.Answers.{coded, refused_is, slice_ok, slice_is}
use Rattle.encoder.proofs.encode_slice.Goals as goal

pub returns-in_err-refused_at : goal.returns-in_err-refused_at
returns-in_err-refused_at g c =
    let S = g.S.Sample in
    let a = c.args in
    let call = slice_call S.depth a.s a.f (S.samples a.p0.now) (S.samples a.p1.now) (S.samples a.p2.now) (S.samples a.p3.now) in
    let f = c.in_err-refused_at.field-0.0 in
    let e = c.in_err-refused_at.ensures in
    let r : c.from_residual.result ≡ Err f = search rules in
    let q = c.coding_slice-asked.ensures S.depth (S.samples a.p0.now) (S.samples a.p1.now) (S.samples a.p2.now) (S.samples a.p3.now) (samples_length {number = S.number} {samples = S.samples} g.met.S.Sample.lists a.p0.now) (samples_length {number = S.number} {samples = S.samples} g.met.S.Sample.lists a.p1.now) (samples_length {number = S.number} {samples = S.samples} g.met.S.Sample.lists a.p2.now) (samples_length {number = S.number} {samples = S.samples} g.met.S.Sample.lists a.p3.now)
    ∙ (λ i. first_no (coding_questions call (c.of-streams.ensures.lengths i) (c.of-streams.ensures.starts i))) in
    ap (λ r. code_says r a.dcs.now a.acs.now) r
    ∙ ap (λ (x : Positions). refusal (coded (number_of f.no) (positions_by x) (buffers a.dcs.now a.acs.now))) e.1
    ∙ refused_is call (buffers a.dcs.now a.acs.now) (positions_by a.at) (e.0 ∙ q) (some f.no)

pub slice-requires : goal.slice-requires
slice-requires g c =
    let S = g.S.Sample in
    let a = c.args in
    let call = slice_call S.depth a.s a.f (S.samples a.p0.now) (S.samples a.p1.now) (S.samples a.p2.now) (S.samples a.p3.now) in
    let q = c.coding_slice-asked.ensures S.depth (S.samples a.p0.now) (S.samples a.p1.now) (S.samples a.p2.now) (S.samples a.p3.now) (samples_length {number = S.number} {samples = S.samples} g.met.S.Sample.lists a.p0.now) (samples_length {number = S.number} {samples = S.samples} g.met.S.Sample.lists a.p1.now) (samples_length {number = S.number} {samples = S.samples} g.met.S.Sample.lists a.p2.now) (samples_length {number = S.number} {samples = S.samples} g.met.S.Sample.lists a.p3.now)
    ∙ (λ i. first_no (coding_questions call (c.of-streams.ensures.lengths i) (c.of-streams.ensures.starts i))) in
    slice_ok call (buffers a.dcs.now a.acs.now) (positions_by a.at) (sym (c.in_ok-refused_at.ensures.0 ∙ q))

pub returns : goal.returns
returns g c =
    let S = g.S.Sample in
    let a = c.args in
    let call = slice_call S.depth a.s a.f (S.samples a.p0.now) (S.samples a.p1.now) (S.samples a.p2.now) (S.samples a.p3.now) in
    let q = c.coding_slice-asked.ensures S.depth (S.samples a.p0.now) (S.samples a.p1.now) (S.samples a.p2.now) (S.samples a.p3.now) (samples_length {number = S.number} {samples = S.samples} g.met.S.Sample.lists a.p0.now) (samples_length {number = S.number} {samples = S.samples} g.met.S.Sample.lists a.p1.now) (samples_length {number = S.number} {samples = S.samples} g.met.S.Sample.lists a.p2.now) (samples_length {number = S.number} {samples = S.samples} g.met.S.Sample.lists a.p3.now)
    ∙ (λ i. first_no (coding_questions call (c.of-streams.ensures.lengths i) (c.of-streams.ensures.starts i))) in
    slice_is call (buffers a.dcs.now a.acs.now) (positions_by a.at) {b' = buffers c.slice.new.dcs c.slice.new.acs} (c.in_ok-refused_at.ensures.0 ∙ q) refl c.slice.ensures
