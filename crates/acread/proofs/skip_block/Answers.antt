-- `acread::skip_block`: the loop over a block's symbols.
use Prim.Native.Nat.{◌≤◌}
use native.Mathlib.Omega.{arith}
use Rattle.acread.specs.Going.{Going}
use Rattle.acread.proofs.Going.{going_start, going_same, going_turn, going_bad, going_over}
use Rattle.acread.proofs.skip_block.Goals as goal
use Rattle.acread.proofs.skip_block.Goals.{else-loop-place-test, then-loop-place-test+then-place-ge64}

pub loop-place-init : goal.loop-place-init
loop-place-init c = (c.requires.1, going_start c.args.s.now c.args.c0 c.args.pending c.requires.0 c.requires.2)

pub returns-in_default : goal.returns-in_default
returns-in_default c =
    let a = c.args in
    let t = c.looked-a in
    let i = t.ensures.goes a.s.now a.c0.pos a.pending c.loop-place.invariant.1 in
    going_bad a.s.now a.c0.pos a.pending t.result.c t.result.place i (omega arith) c.in_default.ensures.1

pub loop-place-preserved : goal.loop-place-preserved
loop-place-preserved c =
    let a = c.args in
    let t = c.looked-a in
    let g = c.in-Ok in
    let i = t.ensures.goes a.s.now a.c0.pos a.pending c.loop-place.invariant.1 in
    (c.loop-place.invariant.0, going_turn a.s.now a.c0.pos a.pending t.result.c t.result.place g.g i (omega arith) g.ensures c.span-place.ensures)

-- the block is over, by a symbol or by a look
pub returns : goal.returns
returns c =
    let a = c.args in
    let i = c.loop-place.invariant.1 in
    let e : Going a.s.now a.c0.pos a.pending c.loop-place-test.c c.loop-place-test.place × (64 ≤ c.loop-place-test.place) =
    elim c.loop-place-test.branch [
      | else-loop-place-test w ↦ (going_same w.c-is w.place-is i, omega (arith, w.loop-place-test.false, w.place-is))
      | then-loop-place-test+then-place-ge64 w ↦
          (going_same w.c-is w.place-is (w.looked-a.ensures.goes a.s.now a.c0.pos a.pending i), omega (arith, w.if-place-ge64.true, w.place-is))
    ] in
    going_over a.s.now a.c0.pos a.pending c.loop-place-test.c c.loop-place-test.place e.0 e.1
