-- `blockread::block::next_block`: the AC places, then the DC.
use mir.Syntax.{w16}
use Rattle.std.proofs.Common.{ℤ, refl, arith, subst}
use Rattle.bitreader.specs.Cursor.{DcGot, NextDc}
use Rattle.acread.proofs.through.Codes.{code_here}
use borrow.Author.Rules.{sfits_of}
use Rattle.scalar.specs.Scalar.{add_of}
use Rattle.scalar.proofs.Laws.{lane2}
use Rattle.calls.specs.ReadPlane.{settle}
use Rattle.acplaces.specs.Places.{Placed}
use Rattle.blockread.proofs.Split.{fits_back, block_next, places_up}
use Rattle.blockread.proofs.Good.{first_steps, first_places}
use Rattle.blockread.proofs.Flat.{all_zeros}
use Rattle.acread.specs.through.Codes.{step_of}
use Rattle.blockread.proofs.block.next_block.Given.{Over}
use Rattle.blockread.proofs.block.next_block.Goals as goal
use Rattle.blockread.proofs.block.next_block.Goals.{Joined-s-lt64, then-s-lt64, else-s-lt64}

pub read_block-g-requires : goal.read_block-g-requires
read_block-g-requires g c =
    let a = c.args in
    (omega (arith, c.requires.2), c.requires.0.few, refl, first_places a.shift 0 a.dc.now a.ac.now a.s c.requires.4)

-- read, or all zeros
placed : (g : Over) (j : Joined-s-lt64 g) → let a = j.args in Placed a.ac.now a.s.ac a.s.pending j.if-s-lt64.g j.if-s-lt64.nat
placed g j =
    let a = j.args in
    elim j.if-s-lt64.branch [
      | then-s-lt64 w ↦ rw (w.g-is, w.nat-is) w.read_block-g.ensures
      | else-s-lt64 w ↦ rw (w.g-is, w.nat-is) (all_zeros a.ac.now a.s.ac a.s.pending w.if-s-lt64.false j.requires.0.few)
    ]

pub overflow_sub-result : goal.overflow_sub-result
overflow_sub-result g c =
    let a = c.args in
    places_up a.ac.now a.s.ac a.s.pending (placed g (goal.at.overflow_sub-result g c).Joined-s-lt64).answer

pub unwrap-h-requires : goal.unwrap-h-requires
unwrap-h-requires g c =
    let a = c.args in
    code_here a.dc.now a.s.dc 0 (first_steps a.shift 0 a.dc.now a.ac.now a.s c.requires.4) c.next_dc.result c.next_dc.ensures

pub returns : goal.returns
returns g c =
    let a = c.args in
    let h = c.unwrap-h.result in
    let b : DcGot a.dc.now a.s.dc h = subst (NextDc a.dc.now a.s.dc) c.unwrap-h.ensures c.next_dc.ensures in
    block_next a.shift a.dc.now a.ac.now a.s c.if-s-lt64.g c.if-s-lt64.nat h (placed g (goal.at.returns g c).Joined-s-lt64) b
    (fits_back {z = c.settled-last.result} (sfits_of c.settled-last.type_inv))
    (lane2 {v = w16} (λ (x y : ℤ). add_of (settle a.shift (step_of h.run h.num) x) y) (sfits_of c.settled-arg-1.given) c.requires.0.fits (sfits_of c.settled-last.type_inv) c.settled-last.ensures)
    refl
