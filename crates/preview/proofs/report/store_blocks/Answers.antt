-- `preview::report::store_blocks`: one byte a turn; what is still to be stored from here gives what the whole gives.
use mathlib.Core.Path.{◌≡◌, refl, sym, ap, subst, ◌∙◌}
use mathlib.Core.Bool.{true}
use mathlib.Core.List.{List}
use Prim.Native.Nat.{suc, ℕ, ◌+◌, ◌-◌, ◌*◌, ◌<◌}
use native.Mathlib.Omega.{arith}
use lib.ListN.{length, set, length-set}
use Rattle.ask.specs.Ask.{accepted}
use Rattle.bits.specs.Bits.{bit_at}
use Rattle.bits.specs.Lay.{lay}
use Rattle.calls.specs.ReadPlane.{read_blocks}
use Rattle.bitreader.specs.declared.AcCursor.{AcCursor}
use Rattle.acread.specs.Block.{flat_byte, BlockEnded}
use Rattle.acread.specs.Going.{LooksIn}
use Rattle.acread.specs.through.Through.{block_ends, good_ends, reports_of}
use Rattle.acread.proofs.Going.{flat_ended}
use Rattle.acread.proofs.through.Blocks.{end_at}
use Rattle.acread.proofs.through.Going.{Going, going_left, going_next, going_over, stored, not_bad, stored_all}
use Rattle.acread.specs.declared.BlockEnd.{BlockEnd}
use Rattle.std.specs.Prelude.{Option, Some, None}
use Rattle.preview.proofs.report.store_blocks.Goals as goal
use Rattle.preview.proofs.report.store_blocks.Goals.{then-pending-lt64+in-Some, else-pending-lt64}

pub returns-in_default : goal.returns-in_default
returns-in_default c =
    let a = c.args in
    let l = c.loop-byte in
    let n = length a.report.now in
    let b = c.skip_block in
    let m = n - (l.byte-index + 1) in
    let z : n - l.byte-index ≡ suc m = omega arith in
    let e : b.result ≡ None = cc in
    absurd
    (not_bad a.ac.now (8 * a.at) n l.c l.pending m (going_left (suc m) z l.invariant.1) b.result b.ensures e c.requires.3)

-- one block more, that ends at d
module _ (s : List ℕ) (p n : ℕ) (c : AcCursor) (pending m left : ℕ) (z : left ≡ suc m) (i : Going s p n c pending left) (good : good_ends (block_ends (read_blocks n (bit_at s) p 0)) ≡ true)
    (l : List ℕ) (j : ℕ) (h : j < length l) (v : ℕ) (w : v ≡ flat_byte pending) where
  next : (o : Option BlockEnd) → BlockEnded s c.pos pending o → (d : BlockEnd) → o ≡ Some d → (d' : AcCursor) (k' : ℕ) → d' ≡ d.c → k' ≡ d.pending
      → Going s p n d' k' m
      × (lay l j (reports_of (read_blocks left (bit_at s) c.pos pending)) ≡ lay (set l j v) (j + 1) (reports_of (read_blocks m (bit_at s) d'.pos k')))
  next o b d f d' k' x y =
      let g = going_left (suc m) z i in
      rw (x, y) (
        going_next s p n c pending m g o b d f,
        ap (λ (q : ℕ). lay l j (reports_of (read_blocks q (bit_at s) c.pos pending))) z ∙ stored s p n c pending m g o b d f good l j h w,
      )

pub loop-byte-preserved : goal.loop-byte-preserved
loop-byte-preserved c =
    let a = c.args in
    let l = c.loop-byte in
    let n = length a.report.now in
    let m = n - (l.byte-index + 1) in
    let z : n - l.byte-index ≡ suc m = omega arith in
    let one = next a.ac.now (8 * a.at) n l.c l.pending m (n - l.byte-index) z l.invariant.1 c.requires.3 l.report l.byte-index (omega (arith, l.invariant.0)) c.flat.result
    c.flat.ensures in
    elim c.if-pending-lt64.branch [
      | then-pending-lt64+in-Some w ↦
          let f : w.skip_block.result ≡ Some w.in-Some.end = cc in
          let k = one w.skip_block.result w.skip_block.ensures w.in-Some.end f c.if-pending-lt64.c c.if-pending-lt64.pending w.c-is w.pending-is in
          (simp length-set l.invariant.0, k.0, l.invariant.2 ∙ k.1, subst LooksIn (sym w.looks-is) w.table_after-looks.ensures)
      | else-pending-lt64 w ↦
          let d : BlockEnd = record { c = l.c; pending = l.pending - 64 } in
          let k = one (Some d) (flat_ended a.ac.now l.c l.pending l.invariant.1.holds l.invariant.1.few (omega (arith, w.if-pending-lt64.false))) d refl
          c.if-pending-lt64.c c.if-pending-lt64.pending w.c-is w.pending-is in
          (simp length-set l.invariant.0, k.0, l.invariant.2 ∙ k.1, subst LooksIn (sym w.looks-is) l.invariant.3)
    ]

pub returns : goal.returns
returns c =
    let a = c.args in
    let l = c.loop-byte in
    let n = length a.report.now in
    let z : n - l.byte-index ≡ 0 = omega arith in (
      ap accepted c.end_byte.ensures
          ∙ end_at (read_blocks n (bit_at a.ac.now) (8 * a.at) 0) l.c.pos l.pending (going_over a.ac.now (8 * a.at) n l.c l.pending (n - l.byte-index) z l.invariant.1),
      sym (l.invariant.2 ∙ stored_all a.ac.now l.c.pos l.pending (n - l.byte-index) l.report l.byte-index z),
    )
