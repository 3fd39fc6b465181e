-- `decoder::decode_plane`.
use mathlib.Core.Path.{◌≡◌, refl, ap, ◌∙◌}
use mathlib.Core.List.{[], ◌∷◌}
use Rattle.std.proofs.Common.{rules}
use Rattle.std.specs.Prelude.{Err}
use Rattle.ask.specs.Refusals.{number_of}
use Rattle.calls.specs.Arguments.{buffers}
use Rattle.sample.proofs.Lists.{samples_length}
use Rattle.calls.specs.Told.{refusal}
use Rattle.calls.specs.Views.{settings_by, plane_by, positions_by}
use Rattle.calls.specs.declared.Positions.{Positions}
use Rattle.calls.proofs.Told.{some}
use Rattle.questions.specs.answers.Read.{read_says}
use Rattle.decoder.proofs.Planes.{may_store, plane_refused, plane_accepted}
use Rattle.decoder.proofs.decode_plane.Goals as goal

pub returns-in_err-refused_at : goal.returns-in_err-refused_at
returns-in_err-refused_at g c =
    let S = g.S.Sample in
    let a = c.args in
    let f = c.in_err-refused_at.field-0.0 in
    let e = c.in_err-refused_at.ensures in
    let r : c.from_residual.result ≡ Err f = search rules in
    ap (λ r. read_says r ((S.samples a.rows.now) ∷ [])) r
    ∙ ap (λ (x : Positions). refusal (record { number = number_of f.no; at = positions_by x; rows = (S.samples a.rows.now) ∷ [] })) e.1
    ∙ plane_refused (settings_by S.depth a.s) (plane_by a.h (S.samples a.rows.now)) (buffers a.dc.now a.ac.now) (positions_by a.at) (e.0 ∙ c.plane-asked.ensures S.depth (S.samples a.rows.now) (samples_length {number = S.number} {samples = S.samples} g.met.S.Sample.lists a.rows.now)) (some f.no)

pub plane-requires : goal.plane-requires
plane-requires g c =
    let S = g.S.Sample in
    let a = c.args in
    may_store (settings_by S.depth a.s) (plane_by a.h (S.samples a.rows.now)) (buffers a.dc.now a.ac.now) (positions_by a.at) (c.in_ok-refused_at.ensures.0 ∙ c.plane-asked.ensures S.depth (S.samples a.rows.now) (samples_length {number = S.number} {samples = S.samples} g.met.S.Sample.lists a.rows.now)) refl

pub returns : goal.returns
returns g c =
    let S = g.S.Sample in
    let a = c.args in
    plane_accepted (settings_by S.depth a.s) (plane_by a.h (S.samples a.rows.now)) (buffers a.dc.now a.ac.now) (positions_by a.at) (c.in_ok-refused_at.ensures.0 ∙ c.plane-asked.ensures S.depth (S.samples a.rows.now) (samples_length {number = S.number} {samples = S.samples} g.met.S.Sample.lists a.rows.now)) refl c.plane.ensures
