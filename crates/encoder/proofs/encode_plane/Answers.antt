-- `encoder::encode_plane`.
use mathlib.Core.Path.{◌≡◌, refl, sym, ap, ◌∙◌}
use Rattle.std.proofs.Common.{rules}
use Rattle.std.specs.Prelude.{Err}
use Rattle.ask.specs.Ask.{first_no}
use Rattle.ask.specs.Refusals.{number_of}
use Rattle.calls.specs.Arguments.{buffers}
use Rattle.sample.proofs.Lists.{samples_length}
use Rattle.calls.specs.Told.{refusal}
use Rattle.calls.specs.Views.{settings_by, plane_by, plane_call, positions_by}
use Rattle.calls.specs.declared.Positions.{Positions}
use Rattle.calls.proofs.Told.{some}
use Rattle.slice.specs.Room.{coding_questions}
use Rattle.questions.specs.answers.Code.{code_says}
use Rattle.encoder.proofs.Answers.{coded, refused_is, plane_ok, plane_is}
use Rattle.encoder.proofs.encode_plane.Goals as goal

pub returns-in_err-refused_at : goal.returns-in_err-refused_at
returns-in_err-refused_at g c =
    let S = g.S.Sample in
    let a = c.args in
    let f = c.in_err-refused_at.field-0.0 in
    let e = c.in_err-refused_at.ensures in
    let r : c.from_residual.result ≡ Err f = search rules in
    let q = c.coding_plane-asked.ensures S.depth (S.samples a.rows.now) (samples_length {number = S.number} {samples = S.samples} g.met.S.Sample.lists a.rows.now)
    ∙ (λ i. first_no (coding_questions (plane_call S.depth a.s a.h (S.samples a.rows.now)) (c.of-streams.ensures.lengths i) (c.of-streams.ensures.starts i))) in
    ap (λ r. code_says r a.dcs.now a.acs.now) r
    ∙ ap (λ (x : Positions). refusal (coded (number_of f.no) (positions_by x) (buffers a.dcs.now a.acs.now))) e.1
    ∙ refused_is (plane_call S.depth a.s a.h (S.samples a.rows.now)) (buffers a.dcs.now a.acs.now) (positions_by a.at) (e.0 ∙ q) (some f.no)

pub plane-requires : goal.plane-requires
plane-requires g c =
    let S = g.S.Sample in
    let a = c.args in
    let q = c.coding_plane-asked.ensures S.depth (S.samples a.rows.now) (samples_length {number = S.number} {samples = S.samples} g.met.S.Sample.lists a.rows.now)
    ∙ (λ i. first_no (coding_questions (plane_call S.depth a.s a.h (S.samples a.rows.now)) (c.of-streams.ensures.lengths i) (c.of-streams.ensures.starts i))) in
    plane_ok (settings_by S.depth a.s) (plane_by a.h (S.samples a.rows.now)) (buffers a.dcs.now a.acs.now) (positions_by a.at) (sym (c.in_ok-refused_at.ensures.0 ∙ q))

pub returns : goal.returns
returns g c =
    let S = g.S.Sample in
    let a = c.args in
    let q = c.coding_plane-asked.ensures S.depth (S.samples a.rows.now) (samples_length {number = S.number} {samples = S.samples} g.met.S.Sample.lists a.rows.now)
    ∙ (λ i. first_no (coding_questions (plane_call S.depth a.s a.h (S.samples a.rows.now)) (c.of-streams.ensures.lengths i) (c.of-streams.ensures.starts i))) in
    plane_is (settings_by S.depth a.s) (plane_by a.h (S.samples a.rows.now)) (buffers a.dcs.now a.acs.now) (positions_by a.at) (c.in_ok-refused_at.ensures.0 ∙ q) refl c.plane.ensures
