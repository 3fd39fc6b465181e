-- `acread::through::through_dc`: two rows of codes, left by the label at the first bad code.
use mathlib.Core.Path.{◌≡◌, refl, sym, ap, ◌∙◌}
use Prim.Native.Nat.{suc, ◌+◌, ◌-◌, ◌*◌}
use native.Mathlib.Omega.{arith}
use Rattle.ask.specs.Ask.{refused, accepted}
use Rattle.ask.specs.Refusals.{number_of}
use Rattle.ask.specs.declared.refusal.Refusal.{Refusal}
use Rattle.ask.specs.declared.refusal.Refusal.TheVariants as no
use Rattle.ask.proofs.Asked.{exit}
use Rattle.bits.specs.Bits.{bytes_for}
use Rattle.bitreader.specs.declared.AcCursor.{AcCursor}
use Rattle.acread.proofs.Rows.{row_first, row_next, row_last, rows_over}
use Rattle.acread.specs.through.Codes.{in_bytes}
use Rattle.acread.proofs.through.CodesGoing.{going_start, going_left, going_next, going_bad, going_over}
use Rattle.acread.proofs.through.through_dc.Goals as goal
use Rattle.acread.proofs.through.through_dc.Goals.{else-codes-test, then-codes-test+then-loop-k-test+in_default}

pub codes-init : goal.codes-init
codes-init c =
    let a = c.args in
    let r = c.cursor-c in
    (omega arith, refl, going_start a.dc.now (8 * a.at) (2 * a.columns) r.result r.ensures.0 r.ensures.1)

pub loop-k-init : goal.loop-k-init
loop-k-init c =
    let a = c.args in
    let i = c.codes.invariant in
    (omega arith, i.1, going_left _ (row_first c.codes.j a.columns (omega arith)) i.2)

pub loop-k-preserved : goal.loop-k-preserved
loop-k-preserved c =
    let a = c.args in
    let j = c.codes.j in
    let l = c.loop-k in
    let m = a.columns - (l.k + 1) + (2 - (j + 1)) * a.columns in
    (omega arith, l.invariant.1, going_next a.dc.now (8 * a.at) (2 * a.columns) l.c m (going_left (suc m) (row_next j l.k a.columns (omega arith)) l.invariant.2) c.in-Ok.g c.in-Ok.ensures)

pub codes-preserved : goal.codes-preserved
codes-preserved c =
    let a = c.args in
    let i = c.loop-k.invariant in
    (omega arith, i.1, going_left _ (row_last c.codes.j c.loop-k.k a.columns (omega arith)) i.2)

pub returns-in_err-read : goal.returns-in_err-read
returns-in_err-read c =
    let a = c.args in
    let j = c.codes.j in
    elim c.codes-test.branch [
      | else-codes-test w ↦ cc (c.in_err-read.was, w.read-is, c.codes.invariant.1)
      | then-codes-test+then-loop-k-test+in_default w ↦
          let l = w.loop-k in
          let m = a.columns - (l.k + 1) + (2 - (j + 1)) * a.columns in
          let e : c.in_err-read.field-0.0 ≡ no.Code = cc (c.in_err-read.was, w.read-is) in
          exit _ c.from_residual.result _ c.from_residual.ensures.1
          (ap (λ (x : Refusal). refused (number_of x)) e
          ∙ sym
          (ap in_bytes (going_bad a.dc.now (8 * a.at) (2 * a.columns) l.c m (going_left (suc m) (row_next j l.k a.columns (omega arith)) l.invariant.2) w.in_default.ensures.1)))
    ]

pub returns : goal.returns
returns c =
    let a = c.args in
    let r = c.codes in
    elim c.codes-test.branch [
      | else-codes-test w ↦
          ap accepted (c.end_byte.ensures ∙ ap (λ (x : AcCursor). bytes_for x.pos) w.c-is)
          ∙ sym
          (ap in_bytes (going_over a.dc.now (8 * a.at) (2 * a.columns) r.c ((2 - r.j) * a.columns) (rows_over r.j a.columns (omega arith)) r.invariant.2))
      | then-codes-test+then-loop-k-test+in_default w ↦ cc (c.in_ok-read.was, w.read-is)
    ]
