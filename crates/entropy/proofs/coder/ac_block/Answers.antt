-- `entropy::coder::ac_block`: a turn codes the next non-zero place; the mask of the places after it is left.
use mathlib.Core.Path.{◌≡◌, ap, ◌∙◌}
use mathlib.Core.List.{List}
use Prim.Native.Nat.{ℕ, ◌+◌, ◌-◌}
use native.Mathlib.Omega.{arith}
use lib.Count.{count_trailing_zeros}
use lib.IntN.{ℤ}
use mir.Syntax.{w16}
use mir.Val.{to_z, of_z}
use mir.Facts.{to_z-of_z}
use Rattle.scalar.specs.Tab.{lane}
use Rattle.bits.specs.Signed.{code_of}
use Rattle.bitwriter.specs.Pairs.{pair_code}
use Rattle.bitwriter.specs.declared.PairCode.{PairCode}
use Rattle.entropy.specs.block.Places.{Small}
use Rattle.entropy.proofs.block.Codes.{code_small, code_some, small_fits}
use Rattle.bitwriter.proofs.Pairs.{pair_asks, pair_put}
use Rattle.entropy.proofs.block.Walk.{going, turn, turn_room, gone, whole, room_tail}
use Rattle.entropy.proofs.coder.ac_block.Goals as goal

-- the pair that was made, by the value as it was read
made : (z : List ℤ) (n p : ℕ) {e : PairCode} → Small z → e ≡ pair_code n (code_of (to_z w16 (of_z w16 (lane z p)))) → e ≡ pair_code n (code_of (lane z p))
made z n p s e = e ∙ ap (λ (v : ℤ). pair_code n (code_of v)) (to_z-of_z {w = w16} (small_fits (lane z p) (s p)))

pub loop-m-init : goal.loop-m-init
loop-m-init g c = going c.args.z.now c.args.s.a c.args.out.now (c.args.s.run + 1) c.args.mask _ c.requires.1 c.requires.0 (omega (arith, c.requires.3))
    (room_tail c.args.z.now c.args.s.run c.args.s.a c.args.out.now c.requires.1 c.requires.4)

pub overflow_sub-p : goal.overflow_sub-p
overflow_sub-p g c = (turn c.requires.1 c.loop-m.invariant c.loop-m-test.true).from

pub pair-e-requires : goal.pair-e-requires
pair-e-requires g c =
    let t = turn c.requires.1 c.loop-m.invariant c.loop-m-test.true in
    let p = count_trailing_zeros 64 c.loop-m.m in
    let v = lane c.args.z.now p in
    rw (to_z-of_z {w = w16} (small_fits v (c.requires.2 p)))
    (omega (arith, t.from, t.inside, c.loop-m.invariant.few), code_some v t.some, code_small v (c.requires.2 p))

pub put-a-requires : goal.put-a-requires
put-a-requires g c =
    let t = turn c.requires.1 c.loop-m.invariant c.loop-m-test.true in
    let p = count_trailing_zeros 64 c.loop-m.m in
    let n = c.loop-m.run + (p - c.loop-m.at) in
    let z = c.args.z.now in
    pair_asks n (code_of (lane z p)) (made z n p c.requires.2 c.pair-e.ensures) (omega (arith, t.from, t.inside, c.loop-m.invariant.few)) (code_some (lane z p) t.some) (code_small (lane z p) (c.requires.2 p))
    (turn_room (room_tail z c.args.s.run c.args.s.a c.args.out.now c.requires.1 c.requires.4) c.loop-m.invariant t)

pub loop-m-smaller : goal.loop-m-smaller
loop-m-smaller g c = let t = turn c.requires.1 c.loop-m.invariant c.loop-m-test.true in omega (arith, t.from, t.inside)

pub loop-m-preserved : goal.loop-m-preserved
loop-m-preserved g c =
    let t = turn c.requires.1 c.loop-m.invariant c.loop-m-test.true in
    let p = count_trailing_zeros 64 c.loop-m.m in
    let n = c.loop-m.run + (p - c.loop-m.at) in
    let z = c.args.z.now in
    gone c.loop-m.invariant t
    (pair_put c.loop-m.a n (code_of (lane z p)) (made z n p c.requires.2 c.pair-e.ensures) (omega (arith, t.from, t.inside, c.loop-m.invariant.few)) (code_some (lane z p) t.some) (code_small (lane z p) (c.requires.2 p)) c.put-a.ensures)

pub returns : goal.returns
returns g c = whole c.args.s.run c.requires.1 c.loop-m.invariant c.loop-m-test.false
