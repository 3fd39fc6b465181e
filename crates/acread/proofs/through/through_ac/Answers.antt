-- `acread::through::through_ac`: two rows of blocks, left by the label at the first bad code.
use mathlib.Core.Path.{◌≡◌, refl, ap, ◌∙◌}
use Prim.Native.Nat.{suc, ◌+◌, ◌-◌, ◌*◌}
use native.Mathlib.Omega.{arith}
use Rattle.std.specs.Prelude.{Some, None}
use Rattle.ask.specs.Ask.{refused, accepted}
use Rattle.ask.specs.Refusals.{number_of}
use Rattle.ask.specs.declared.refusal.Refusal.{Refusal}
use Rattle.ask.specs.declared.refusal.Refusal.TheVariants as no
use Rattle.ask.proofs.Asked.{exit}
use Rattle.bits.specs.Bits.{bit_at, bytes_for}
use Rattle.bitreader.specs.declared.AcCursor.{AcCursor}
use Rattle.calls.specs.ReadPlane.{read_blocks}
use Rattle.acread.proofs.Rows.{row_first, row_next, row_last, rows_over}
use Rattle.acread.proofs.through.Blocks.{end_bad, end_at}
use Rattle.acread.proofs.through.Going.{going_start, going_left, going_next, going_bad, going_over}
use Rattle.acread.proofs.through.through_ac.Goals as goal
use Rattle.acread.proofs.through.through_ac.Goals.{else-rows-test, then-rows-test+then-loop-k-test+in_default}

pub rows-init : goal.rows-init
rows-init c =
    let a = c.args in
    let r = c.cursor-c in
    (omega arith, refl, going_start a.ac.now (8 * a.at) (2 * a.columns) r.result r.ensures.0 r.ensures.1)

pub loop-k-init : goal.loop-k-init
loop-k-init c =
    let a = c.args in
    let i = c.rows.invariant in
    (omega arith, i.1, going_left _ (row_first c.rows.j a.columns (omega arith)) i.2)

pub loop-k-preserved : goal.loop-k-preserved
loop-k-preserved c =
    let a = c.args in
    let j = c.rows.j in
    let l = c.loop-k in
    let m = a.columns - (l.k + 1) + (2 - (j + 1)) * a.columns in
    let e : c.skip_block.result ≡ Some c.in-Some.end = cc in
    (omega arith, l.invariant.1, going_next a.ac.now (8 * a.at) (2 * a.columns) l.c l.pending m (going_left (suc m) (row_next j l.k a.columns (omega arith)) l.invariant.2) c.skip_block.result c.skip_block.ensures c.in-Some.end e)

pub rows-preserved : goal.rows-preserved
rows-preserved c =
    let a = c.args in
    let i = c.loop-k.invariant in
    (omega arith, i.1, going_left _ (row_last c.rows.j c.loop-k.k a.columns (omega arith)) i.2)

pub returns-in_err-read : goal.returns-in_err-read
returns-in_err-read c =
    let a = c.args in
    let j = c.rows.j in
    elim c.rows-test.branch [
      | else-rows-test w ↦ cc (c.in_err-read.was, w.read-is, c.rows.invariant.1)
      | then-rows-test+then-loop-k-test+in_default w ↦
          let l = w.loop-k in
          let m = a.columns - (l.k + 1) + (2 - (j + 1)) * a.columns in
          let e : c.in_err-read.field-0.0 ≡ no.Code = cc (c.in_err-read.was, w.read-is) in
          let f : w.skip_block.result ≡ None = cc in
          exit _ c.from_residual.result _ c.from_residual.ensures.1
          (ap (λ (x : Refusal). refused (number_of x)) e
          ∙ end_bad (read_blocks (2 * a.columns) (bit_at a.ac.now) (8 * a.at) 0)
          (going_bad a.ac.now (8 * a.at) (2 * a.columns) l.c l.pending m (going_left (suc m) (row_next j l.k a.columns (omega arith)) l.invariant.2) w.skip_block.result w.skip_block.ensures f))
    ]

pub returns : goal.returns
returns c =
    let a = c.args in
    let r = c.rows in
    elim c.rows-test.branch [
      | else-rows-test w ↦
          ap accepted (c.end_byte.ensures ∙ ap (λ (x : AcCursor). bytes_for x.pos) w.c-is)
          ∙ end_at (read_blocks (2 * a.columns) (bit_at a.ac.now) (8 * a.at) 0) r.c.pos r.pending
          (going_over a.ac.now (8 * a.at) (2 * a.columns) r.c r.pending ((2 - r.j) * a.columns) (rows_over r.j a.columns (omega arith)) r.invariant.2)
      | then-rows-test+then-loop-k-test+in_default w ↦ cc (c.in_ok-read.was, w.read-is)
    ]
