-- `acplaces::by_zeros`: the loop over symbols.
use mathlib.Core.Path.{ap, ◌∙◌}
use mathlib.Core.List.{List}
use mir.Syntax.{w16}
use Prim.Native.Nat.{ℕ}
use native.Mathlib.Omega.{arith}
use borrow.Author.Rules.{sfits_of}
use mir.Facts.{to_z-of_z}
use lib.ListN.{get_or}
use Rattle.acplaces.proofs.Scan.{place_below}
use Rattle.acplaces.proofs.Zeros.{onward_same, value_onward, run_onward}
use Rattle.acplaces.proofs.by_zeros.Goals as goal
use Rattle.acplaces.proofs.by_zeros.Goals.{then-g-eq0, else-g-eq0}

pub bounds-nat-j : goal.bounds-nat-j
bounds-nat-j c = place_below c.args.t.now.order c.loop-m.place c.args.t.now.order_is c.if-place-lt64.true

pub loop-m-preserved : goal.loop-m-preserved
loop-m-preserved c =
    let l = c.loop-m in
    let b = c.if-place-lt64.true in
    let g = c.in-Some.g in
    let n = c.in-Some.ensures in (
      elim c.if-g-eq0.branch [
        | then-g-eq0 w ↦
            onward_same w.nat-is w.place-is (value_onward c.args.a c.args.nat.now l.c l.place l.nat l.invariant.0 b g n w.if-g-eq0.true
            (to_z-of_z {w = w16} (sfits_of w.from_code.type_inv) ∙ w.from_code.ensures) (ap (λ (x : List ℕ). get_or x l.place 0) c.args.t.now.order_is))
        | else-g-eq0 w ↦ onward_same w.nat-is w.place-is (run_onward c.args.a c.args.nat.now l.c l.place l.nat l.invariant.0 b g n w.if-g-eq0.false)
      ],
      omega (arith, c.loop-m-test.true),
      n.count,
      omega (arith, n.near, l.invariant.3),
      elim c.if-g-eq0.branch [
        | then-g-eq0 w ↦ omega (arith, w.place-is, b)
        | else-g-eq0 w ↦ omega (arith, w.place-is, b, n.small)
      ],
    )
