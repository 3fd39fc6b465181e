-- `preview::preview`: the questions, the judge, then the bytes.
use mathlib.Core.Path.{◌≡◌, refl, sym, ap, ◌∙◌}
use native.Mathlib.Omega.{arith}
use Prim.Native.Nat.{ℕ}
use lib.ListN.{length}
use Rattle.std.proofs.Common.{rules}
use Rattle.std.specs.Prelude.{Err}
use Rattle.ask.specs.Ask.{first_no}
use Rattle.calls.specs.Questions.{preview_questions}
use Rattle.calls.specs.Told.{refusal}
use Rattle.preview.specs.Answer.{preview_says}
use Rattle.preview.proofs.Asked.{yes, answer_no, answer_bad, answer_end, code_yes, code_no}
use Rattle.preview.proofs.preview.Goals as goal

pub returns-in_err-preview_asked : goal.returns-in_err-preview_asked
returns-in_err-preview_asked c =
    let a = c.args in
    let e = c.in_err-preview_asked.field-0.0 in
    let r : c.from_residual.result ≡ Err e = search rules in
    ap (λ r. preview_says a.at r a.upper.now a.lower.now) r
    ∙ answer_no a.shift a.h.place a.h.stride a.upper.now a.lower.now a.dc.now a.at e
    (c.in_err-preview_asked.ensures a.upper.now a.lower.now refl refl
    ∙ (λ i. first_no (preview_questions a.shift a.h.place a.h.stride a.upper.now a.lower.now (c.of.ensures.0 i) (c.of.ensures.1 i))))

pub dc_good-requires : goal.dc_good-requires
dc_good-requires c =
    let a = c.args in
    let n = c.in_ok-preview_asked.ensures a.upper.now a.lower.now refl refl
    ∙ (λ i. first_no (preview_questions a.shift a.h.place a.h.stride a.upper.now a.lower.now (c.of.ensures.0 i) (c.of.ensures.1 i))) in
    let k = yes a.shift a.h.place a.h.stride a.upper.now a.lower.now (length a.dc.now) a.at n in
    (omega (arith, k.start), omega (arith, k.wide))

pub returns-in_err-ask : goal.returns-in_err-ask
returns-in_err-ask c =
    let a = c.args in
    let e = c.in_err-ask.field-0.0 in
    let r : c.from_residual-in_err-ask.result ≡ Err e = search rules in
    let n = c.in_ok-preview_asked.ensures a.upper.now a.lower.now refl refl
    ∙ (λ i. first_no (preview_questions a.shift a.h.place a.h.stride a.upper.now a.lower.now (c.of.ensures.0 i) (c.of.ensures.1 i))) in
    let k = code_no e c.in_err-ask.ensures in
    ap (λ r. preview_says a.at r a.upper.now a.lower.now) r
    ∙ ap (λ (x : ℕ). refusal (record { number = x; at = a.at; upper = a.upper.now; lower = a.lower.now })) k.1
    ∙ answer_bad a.shift a.h.place a.h.stride a.upper.now a.lower.now a.dc.now a.at n (sym c.dc_good.ensures ∙ k.0)

pub store_preview-requires : goal.store_preview-requires
store_preview-requires c =
    let a = c.args in
    let n = c.in_ok-preview_asked.ensures a.upper.now a.lower.now refl refl
    ∙ (λ i. first_no (preview_questions a.shift a.h.place a.h.stride a.upper.now a.lower.now (c.of.ensures.0 i) (c.of.ensures.1 i))) in
    let k = yes a.shift a.h.place a.h.stride a.upper.now a.lower.now (length a.dc.now) a.at n in
    (omega (arith, k.few), omega (arith, k.wide), k.above, k.below, k.start, sym c.dc_good.ensures ∙ code_yes c.in_ok-ask.ensures)

pub returns : goal.returns
returns c =
    let a = c.args in
    let n = c.in_ok-preview_asked.ensures a.upper.now a.lower.now refl refl
    ∙ (λ i. first_no (preview_questions a.shift a.h.place a.h.stride a.upper.now a.lower.now (c.of.ensures.0 i) (c.of.ensures.1 i))) in
    answer_end a.shift a.h.place a.h.stride a.upper.now a.lower.now a.dc.now a.at n c.store_preview.ensures
