-- What the questions of the preview leave, and the answer that they lead to.
use mathlib.Core.Path.{◌≡◌, refl, sym, ap}
use mathlib.Core.Bool.{Bool, true, false, ◌&&◌}
use mathlib.Core.List.{List}
use Prim.Native.Nat.{ℕ, zero, suc, ◌*◌, ◌/◌, ◌≤◌, ◌<◌}
use native.Mathlib.Omega.{arith}
use lib.Dec.{leb}
use lib.ListN.{length, take, drop}
use borrow.Author.Tests.{leb-true}
use Rattle.ask.specs.Ask.{accepted, or_else, first_no}
use Rattle.ask.specs.Numbers.{no_code}
use Rattle.ask.specs.Limits.{shift_max, shift_ok, place_ok, stride_max, stride_ok, start_max, start_ok, dc_read_ok}
use Rattle.ask.specs.Refusals.{number_of}
use Rattle.ask.specs.declared.refusal.Refusal.{Refusal}
use Rattle.ask.proofs.FirstNo.{passed, left_yes, right_yes}
use Rattle.bits.specs.Bits.{bit_at}
use Rattle.bits.specs.Lay.{lay}
use Rattle.calls.specs.ReadPlane.{DcSteps, bad_steps, dc_steps, read_steps}
use Rattle.calls.specs.Grid.{blocks_of}
use Rattle.calls.specs.Questions.{preview_questions}
use Rattle.calls.specs.Previews.{Previewed, preview_bytes, previewed_by, preview}
use Rattle.calls.specs.Told.{refusal, acceptance}
use Rattle.calls.proofs.Told.{some, told_refused, told_accepted}
use Rattle.calls.proofs.Legal.{stride_legal}
use Rattle.acread.specs.through.Codes.{good_steps, dc_end}
use Rattle.blockread.specs.dc.Steps.{step_list}
use Rattle.preview.specs.Answer.{preview_told}
use Rattle.preview.specs.row.Row.{Stored}

-- every answer is yes
pub record Yes (shift stride : ℕ) (upper lower : List ℕ) (at : ℕ) : Type 0 where
  pub few : shift ≤ shift_max
  pub wide : stride ≤ stride_max
  pub above : stride / 8 ≤ length upper
  pub below : stride / 8 ≤ length lower
  pub start : at ≤ start_max

pub yes : (shift place stride : ℕ) (upper lower : List ℕ) (bytes at : ℕ) → 0 ≡ first_no (preview_questions shift place stride upper lower bytes at) → Yes shift stride upper lower at
unfolding preview_questions
yes shift place stride upper lower bytes at e =
    let above = leb (stride / 8) (length upper) in
    let below = leb (stride / 8) (length lower) in
    let q2 = passed (shift_ok shift) 1 _ (sym e) in
    let q3 = passed (place_ok place) 2 _ q2.1 in
    let q4 = passed (stride_ok stride) 3 _ q3.1 in
    let q5 = passed (above && below) 4 _ q4.1 in
    let q7 = passed (start_ok at && dc_read_ok bytes) 6 _ q5.1 in
    record {
      few = leb-true shift shift_max q2.0;
      wide = (stride_legal stride q4.0).stride_le;
      above = leb-true (stride / 8) (length upper) (left_yes above below q5.0);
      below = leb-true (stride / 8) (length lower) (right_yes above below q5.0);
      start = leb-true at start_max (left_yes (start_ok at) (dc_read_ok bytes) q7.0);
    }

-- ---- the answer
by_number_lem : (m shift place stride at : ℕ) (upper lower : List ℕ) (x : DcSteps) {n : ℕ} → n ≡ m → 0 < n
    → record { number = n; at = at; upper = upper; lower = lower } ≡ previewed_by m shift place stride at upper lower x
by_number_lem zero shift place stride at upper lower x e h = absurd (omega arith)
by_number_lem (suc m) shift place stride at upper lower x e h = ap (λ (k : ℕ). record { number = k; at = at; upper = upper; lower = lower }) e

by_bad : (shift place stride at : ℕ) (upper lower : List ℕ) (x : DcSteps) → good_steps x ≡ false
    → record { number = no_code; at = at; upper = upper; lower = lower } ≡ previewed_by 0 shift place stride at upper lower x
by_bad shift place stride at upper lower bad_steps e = refl
by_bad shift place stride at upper lower (dc_steps ts q) e = absurd (let k : ◌≡◌ {A = ℕ} 0 1 = cc in omega arith)

by_end : (shift place stride at : ℕ) (upper lower : List ℕ) (x : DcSteps) {q : ℕ} {u v : List ℕ} → accepted q ≡ dc_end x
    → u ≡ lay upper 0 (take (stride / 8) (preview_bytes shift place (blocks_of stride) (step_list x)))
    → v ≡ lay lower 0 (drop (stride / 8) (preview_bytes shift place (blocks_of stride) (step_list x)))
    → record { number = 0; at = q; upper = u; lower = v } ≡ previewed_by 0 shift place stride at upper lower x
by_end shift place stride at upper lower bad_steps e f g = absurd (let k : ◌≡◌ {A = ℕ} 0 1 = cc in omega arith)
by_end shift place stride at upper lower (dc_steps ts a) {q} {u} {v} e f g = cc

module _ (shift place stride : ℕ) (upper lower dc : List ℕ) (at : ℕ) where
  pub answer_no : (e : Refusal) → number_of e ≡ first_no (preview_questions shift place stride upper lower (length dc) at)
      → refusal (record { number = number_of e; at = at; upper = upper; lower = lower }) ≡ preview_told (preview shift place stride upper lower dc at)
  unfolding preview
  answer_no e h =
      told_refused (λ (k : Previewed). k.number) (by_number_lem _ shift place stride at upper lower (read_steps (blocks_of stride) (bit_at dc) (8 * at)) h (some e)) (some e)

  module _ (y : 0 ≡ first_no (preview_questions shift place stride upper lower (length dc) at)) where
    pub answer_bad : good_steps (read_steps (2 * (stride / 8)) (bit_at dc) (8 * at)) ≡ false
        → refusal (record { number = no_code; at = at; upper = upper; lower = lower }) ≡ preview_told (preview shift place stride upper lower dc at)
    unfolding preview
    answer_bad e =
        told_refused (λ (k : Previewed). k.number) (rw (← y) (by_bad shift place stride at upper lower (read_steps (2 * (stride / 8)) (bit_at dc) (8 * at)) e)) (omega arith)

    pub answer_end : {q : ℕ} {u v : List ℕ} → Stored shift place (stride / 8) upper u lower v (read_steps (2 * (stride / 8)) (bit_at dc) (8 * at)) q
        → acceptance (record { number = 0; at = q; upper = u; lower = v }) ≡ preview_told (preview shift place stride upper lower dc at)
    unfolding preview
    answer_end s =
        told_accepted (λ (k : Previewed). k.number)
        (rw (← y) (by_end shift place stride at upper lower (read_steps (2 * (stride / 8)) (bit_at dc) (8 * at)) s.end s.above s.below))
        refl

-- the judge's answer, as a question
pub code_yes : {x : Bool} → 0 ≡ or_else x no_code 0 → x ≡ true
code_yes {x = true} e = refl
code_yes {x = false} e = absurd (omega arith)

pub code_no : {x : Bool} (e : Refusal) → number_of e ≡ or_else x no_code 0 → (x ≡ false) × (number_of e ≡ no_code)
code_no {x = true} e h = absurd (omega (arith, some e))
code_no {x = false} e h = (refl, h)
