-- `preview::row::preview_row`: one byte a turn; the loop carries `Row`.
use mathlib.Core.Path.{◌≡◌, sym, subst, ◌∙◌}
use mathlib.Core.List.{List}
use Prim.Native.Nat.{ℕ, ◌≤◌}
use Rattle.bitreader.specs.Cursor.{DcGot, NextDc}
use native.Mathlib.Omega.{arith}
use borrow.Author.Rules.{sfits_of}
use lib.ListN.{length, take, length-set}
use lib.Seq.{length-take-le}
use mir.Facts.{to_z-of_z}
use mir.Syntax.{w16}
use mir.Val.{to_z, of_z, SFits}
use Rattle.preview.proofs.row.Going.{row_start, row_next, row_code, row_done, row_whole, row_at}
use Rattle.preview.proofs.row.preview_row.Goals as goal

-- the part that is stored
module _ (n : ℕ) (out : List ℕ) (room : n ≤ length out) where
  part_length : length (take n out) ≡ n
  part_length = length-take-le n out room

  part_room : n ≤ length (take n out)
  part_room = omega (arith, part_length)

pub loop-byte-init : goal.loop-byte-init
loop-byte-init c =
    let a = c.args in (
      part_length a.columns a.out.now c.requires.4,
      row_start a.dc.now a.shift (to_z w16 (of_z w16 a.level)) a.columns (to_z w16 (of_z w16 a.prior)) (take a.columns a.out.now) (part_room a.columns a.out.now c.requires.4) a.c0 c.requires.0 (rw (to_z-of_z c.ranges.prior) c.ranges.prior),
    )

pub unwrap-g-requires : goal.unwrap-g-requires
unwrap-g-requires c =
    let a = c.args in
    let l = c.loop-byte in
    row_code a.dc.now a.shift (to_z w16 (of_z w16 a.level)) a.columns (to_z w16 (of_z w16 a.prior)) (take a.columns a.out.now) (part_room a.columns a.out.now c.requires.4) a.c0.pos l.c _ l.byte-index
    l.byte-items l.invariant.1 (omega (arith, part_length a.columns a.out.now c.requires.4)) c.requires.5 c.next_dc.result c.next_dc.ensures

pub loop-byte-preserved : goal.loop-byte-preserved
loop-byte-preserved c =
    let a = c.args in
    let l = c.loop-byte in
    let g = c.unwrap-g.result in
    let b : DcGot a.dc.now l.c g = subst (NextDc a.dc.now l.c) c.unwrap-g.ensures c.next_dc.ensures in
    let d = c.settled-last in
    let w : SFits w16 d.result = sfits_of d.type_inv in (
      simp length-set l.invariant.0,
      row_next a.dc.now a.shift (to_z w16 (of_z w16 a.level)) a.columns (to_z w16 (of_z w16 a.prior)) (take a.columns a.out.now) (part_room a.columns a.out.now c.requires.4) a.c0.pos l.c _ l.byte-index
          l.byte-items l.invariant.1 (omega (arith, part_length a.columns a.out.now c.requires.4)) g b (rw (to_z-of_z w) w) (to_z-of_z w ∙ d.ensures) c.preview_byte.ensures,
    )

pub returns : goal.returns
returns c =
    let a = c.args in
    let l = c.loop-byte in
    row_at (sym (to_z-of_z c.ranges.level)) (sym (to_z-of_z c.ranges.prior)) (row_whole a.dc.now a.shift (to_z w16 (of_z w16 a.level)) a.columns (to_z w16 (of_z w16 a.prior)) a.out.now c.requires.4 (part_length a.columns a.out.now c.requires.4) l.invariant.0
    (row_done a.dc.now a.shift (to_z w16 (of_z w16 a.level)) a.columns (to_z w16 (of_z w16 a.prior)) (take a.columns a.out.now) (part_room a.columns a.out.now c.requires.4) a.c0.pos l.c _ l.byte-index
    l.byte-items l.invariant.1 (omega (arith, part_length a.columns a.out.now c.requires.4)) (omega (arith, part_length a.columns a.out.now c.requires.4))))
