-- What the questions of the block report leave, and the answer that they lead to.
use mathlib.Core.Path.{◌≡◌, refl, sym, ap, ◌∙◌}
use mathlib.Core.Bool.{◌&&◌}
use mathlib.Core.List.{List, ◌++◌, append_assoc}
use Prim.Native.Nat.{ℕ, zero, suc, ◌+◌, ◌*◌, ◌/◌, ◌≤◌, ◌<◌}
use native.Mathlib.Omega.{arith}
use lib.Dec.{leb}
use lib.ListN.{length, take, drop, length-append, length-drop, take-append-drop}
use Rattle.std.proofs.lemmas.List.{drop-append-le}
use borrow.Author.Tests.{leb-true}
use Rattle.ask.specs.Ask.{refused, accepted, first_no}
use Rattle.ask.specs.Numbers.{no_code}
use Rattle.ask.specs.Limits.{stride_max, stride_ok, start_max, start_ok, ac_read_ok}
use Rattle.ask.specs.Refusals.{number_of}
use Rattle.ask.specs.declared.refusal.Refusal.{Refusal}
use Rattle.ask.proofs.FirstNo.{passed, left_yes}
use Rattle.bits.specs.Bits.{bit_at}
use Rattle.bits.specs.Lay.{lay}
use Rattle.calls.specs.ReadPlane.{Blocks, bad_blocks, blocks, read_blocks}
use Rattle.calls.specs.Grid.{blocks_of}
use Rattle.calls.specs.Questions.{report_questions}
use Rattle.calls.specs.Previews.{Reported, reported_by, block_report}
use Rattle.calls.specs.Told.{refusal, acceptance}
use Rattle.calls.proofs.Told.{some, told_refused, told_accepted}
use Rattle.calls.proofs.Legal.{stride_legal}
use Rattle.acread.specs.through.Through.{reports_of, ac_end}
use Rattle.preview.specs.report.Report.{report_told}

-- every answer is yes
pub record Yes (stride : ℕ) (report : List ℕ) (at : ℕ) : Type 0 where
  pub wide : stride ≤ stride_max
  pub room : stride / 4 ≤ length report
  pub start : at ≤ start_max

pub yes : (stride : ℕ) (report : List ℕ) (bytes at : ℕ) → 0 ≡ first_no (report_questions stride report bytes at) → Yes stride report at
unfolding report_questions
yes stride report bytes at e =
    let q4 = passed (stride_ok stride) 3 _ (sym e) in
    let q5 = passed (leb (stride / 4) (length report)) 4 _ q4.1 in
    let q7 = passed (start_ok at && ac_read_ok bytes) 6 _ q5.1 in
    record {
      wide = (stride_legal stride q4.0).stride_le;
      room = leb-true (stride / 4) (length report) q5.0;
      start = leb-true at start_max (left_yes (start_ok at) (ac_read_ok bytes) q7.0);
    }

-- bytes laid into a front part, with what lies behind it
pub front_laid : (l : List ℕ) (n : ℕ) (xs k : List ℕ) → n ≤ length l → k ≡ lay (take n l) 0 xs → length k ≡ length (take n l) → k ++ drop n l ≡ lay l 0 xs
unfolding lay
front_laid l n xs k h e f =
    let q = 0 + length xs in
    let g : length k ≡ length (xs ++ drop q (take n l)) = ap length e in
    let m : q ≤ length (take n l) = omega (arith, g, f, length-append xs (drop q (take n l)), length-drop q (take n l)) in
    ap (λ (x : List ℕ). x ++ drop n l) e ∙ append_assoc xs (drop q (take n l)) (drop n l)
    ∙ ap (λ (x : List ℕ). xs ++ x) (sym (drop-append-le q (take n l) (drop n l) m) ∙ ap (drop q) (take-append-drop n l))

-- ---- the answer
by_number_lem : (m at : ℕ) (report : List ℕ) (x : Blocks) {n : ℕ} → n ≡ m → 0 < n → record { number = n; at = at; report = report } ≡ reported_by m at report x
by_number_lem zero at report x e h = absurd (omega arith)
by_number_lem (suc m) at report x e h = ap (λ (k : ℕ). record { number = k; at = at; report = report }) e

by_bad : (at : ℕ) (report : List ℕ) (x : Blocks) → refused no_code ≡ ac_end x → record { number = no_code; at = at; report = report } ≡ reported_by 0 at report x
by_bad at report bad_blocks e = refl
by_bad at report (blocks bs q r) e = absurd (let k : ◌≡◌ {A = ℕ} 0 1 = cc in omega arith)

by_end : (at : ℕ) (report : List ℕ) (x : Blocks) {q : ℕ} {l : List ℕ} → accepted q ≡ ac_end x → l ≡ lay report 0 (reports_of x)
    → record { number = 0; at = q; report = l } ≡ reported_by 0 at report x
by_end at report bad_blocks e f = absurd (let k : ◌≡◌ {A = ℕ} 0 1 = cc in omega arith)
by_end at report (blocks bs a b) {q} {l} e f = cc

module _ (stride : ℕ) (report ac : List ℕ) (at : ℕ) where
  pub answer_no : (e : Refusal) → number_of e ≡ first_no (report_questions stride report (length ac) at)
      → refusal (record { number = number_of e; at = at; report = report }) ≡ report_told (block_report stride report ac at)
  unfolding block_report
  answer_no e h = told_refused (λ (k : Reported). k.number) (by_number_lem _ at report (read_blocks (blocks_of stride) (bit_at ac) (8 * at) 0) h (some e)) (some e)

  module _ (y : 0 ≡ first_no (report_questions stride report (length ac) at)) where
    pub answer_bad : refused no_code ≡ ac_end (read_blocks (2 * (stride / 8)) (bit_at ac) (8 * at) 0)
        → refusal (record { number = no_code; at = at; report = report }) ≡ report_told (block_report stride report ac at)
    unfolding block_report
    answer_bad e = told_refused (λ (k : Reported). k.number) (rw (← y) (by_bad at report (read_blocks (2 * (stride / 8)) (bit_at ac) (8 * at) 0) e)) (omega arith)

    pub answer_end : {q : ℕ} {l : List ℕ} → accepted q ≡ ac_end (read_blocks (2 * (stride / 8)) (bit_at ac) (8 * at) 0)
        → l ≡ lay report 0 (reports_of (read_blocks (2 * (stride / 8)) (bit_at ac) (8 * at) 0)) → acceptance (record { number = 0; at = q; report = l }) ≡ report_told (block_report stride report ac at)
    unfolding block_report
    answer_end e f = told_accepted (λ (k : Reported). k.number) (rw (← y) (by_end at report (read_blocks (2 * (stride / 8)) (bit_at ac) (8 * at) 0) e f)) refl
