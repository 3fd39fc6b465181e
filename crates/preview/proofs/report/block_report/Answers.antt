-- `preview::report::block_report`: the questions, the judge, then the bytes.
use mathlib.Core.Path.{◌≡◌, refl, sym, ap, subst, ◌∙◌}
use mathlib.Core.Bool.{true}
use mathlib.Core.List.{List}
use Prim.Native.Nat.{ℕ, ◌*◌, ◌/◌, ◌≤◌}
use native.Mathlib.Omega.{arith}
use lib.ListN.{length, take}
use lib.Seq.{length-take-le}
use Rattle.std.proofs.Common.{rules}
use Rattle.std.specs.Prelude.{Err}
use Rattle.ask.specs.Ask.{first_no}
use Rattle.bits.specs.Bits.{bit_at}
use Rattle.bits.specs.Lay.{lay}
use Rattle.calls.specs.ReadPlane.{Blocks, read_blocks}
use Rattle.acread.specs.through.Through.{block_ends, good_ends, reports_of, ac_end}
use Rattle.calls.specs.Questions.{report_questions}
use Rattle.calls.specs.Told.{refusal}
use Rattle.preview.specs.report.Report.{report_says}
use Rattle.preview.proofs.Asked.{code_yes, code_no}
use Rattle.preview.proofs.report.Asked.{yes, answer_no, answer_bad, answer_end, front_laid}
use Rattle.acread.proofs.through.Blocks.{not_good}
use Rattle.preview.proofs.report.block_report.Goals as goal

pub returns-in_err-report_asked : goal.returns-in_err-report_asked
returns-in_err-report_asked c =
    let a = c.args in
    let e = c.in_err-report_asked.field-0.0 in
    let r : c.from_residual.result ≡ Err e = search rules in
    ap (λ r. report_says a.at r a.report.now) r
    ∙ answer_no a.stride a.report.now a.ac.now a.at e
    (c.in_err-report_asked.ensures a.report.now refl ∙ (λ i. first_no (report_questions a.stride a.report.now (c.of.ensures.0 i) (c.of.ensures.1 i))))

pub ac_good-requires : goal.ac_good-requires
ac_good-requires c =
    let a = c.args in
    let n = c.in_ok-report_asked.ensures a.report.now refl ∙ (λ i. first_no (report_questions a.stride a.report.now (c.of.ensures.0 i) (c.of.ensures.1 i))) in
    let k = yes a.stride a.report.now (length a.ac.now) a.at n in
    (omega (arith, k.start), omega (arith, k.wide))

pub returns-in_err-ask : goal.returns-in_err-ask
returns-in_err-ask c =
    let a = c.args in
    let e = c.in_err-ask.field-0.0 in
    let r : c.from_residual-in_err-ask.result ≡ Err e = search rules in
    let n = c.in_ok-report_asked.ensures a.report.now refl ∙ (λ i. first_no (report_questions a.stride a.report.now (c.of.ensures.0 i) (c.of.ensures.1 i))) in
    let k = code_no e c.in_err-ask.ensures in
    ap (λ r. report_says a.at r a.report.now) r
    ∙ ap (λ (x : ℕ). refusal (record { number = x; at = a.at; report = a.report.now })) k.1
    ∙ answer_bad a.stride a.report.now a.ac.now a.at n (not_good (read_blocks (2 * (a.stride / 8)) (bit_at a.ac.now) (8 * a.at) 0) (sym c.ac_good.ensures ∙ k.0))

-- the part that is stored
module _ (stride : ℕ) (report : List ℕ) (room : stride / 4 ≤ length report) where
  part : 2 * (stride / 8) ≤ length report
  part = omega (arith, room)

  part_length : length (take (2 * (stride / 8)) report) ≡ 2 * (stride / 8)
  part_length = length-take-le (2 * (stride / 8)) report part

pub slice_bounds-store_report-end : goal.slice_bounds-store_report-end
slice_bounds-store_report-end c =
    let a = c.args in
    let n = c.in_ok-report_asked.ensures a.report.now refl ∙ (λ i. first_no (report_questions a.stride a.report.now (c.of.ensures.0 i) (c.of.ensures.1 i))) in
    let k = yes a.stride a.report.now (length a.ac.now) a.at n in
    part a.stride a.report.now k.room

pub slice_bounds-store_report-end-2 : goal.slice_bounds-store_report-end-2
slice_bounds-store_report-end-2 c =
    let a = c.args in
    let n = c.in_ok-report_asked.ensures a.report.now refl ∙ (λ i. first_no (report_questions a.stride a.report.now (c.of.ensures.0 i) (c.of.ensures.1 i))) in
    let k = yes a.stride a.report.now (length a.ac.now) a.at n in
    sym (part_length a.stride a.report.now k.room)

pub store_report-requires : goal.store_report-requires
store_report-requires c =
    let a = c.args in
    let n = c.in_ok-report_asked.ensures a.report.now refl ∙ (λ i. first_no (report_questions a.stride a.report.now (c.of.ensures.0 i) (c.of.ensures.1 i))) in
    let k = yes a.stride a.report.now (length a.ac.now) a.at n in
    let t = part_length a.stride a.report.now k.room in (
      k.start,
      omega (arith, t, k.wide),
      subst (λ (x : ℕ). good_ends (block_ends (read_blocks x (bit_at a.ac.now) (8 * a.at) 0)) ≡ true) (sym t) (sym c.ac_good.ensures ∙ code_yes c.in_ok-ask.ensures),
    )

pub returns : goal.returns
returns c =
    let a = c.args in
    let n = c.in_ok-report_asked.ensures a.report.now refl ∙ (λ i. first_no (report_questions a.stride a.report.now (c.of.ensures.0 i) (c.of.ensures.1 i))) in
    let k = yes a.stride a.report.now (length a.ac.now) a.at n in
    let w = 2 * (a.stride / 8) in
    let t = part_length a.stride a.report.now k.room in
    let b : ℕ → Blocks = λ x. read_blocks x (bit_at a.ac.now) (8 * a.at) 0 in
    answer_end a.stride a.report.now a.ac.now a.at n (c.store_report.ensures.0 ∙ ap (λ (x : ℕ). ac_end (b x)) t)
    (front_laid a.report.now w (reports_of (b w)) c.store_report.new.report (part a.stride a.report.now k.room)
    (c.store_report.ensures.1 ∙ ap (λ (x : ℕ). lay (take w a.report.now) 0 (reports_of (b x))) t) c.store_report.auto.report)
