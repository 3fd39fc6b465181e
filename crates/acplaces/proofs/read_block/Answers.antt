-- `acplaces::read_block`: the loop over words.
use mathlib.Core.Path.{sym, ap, subst, ◌∙◌}
use mathlib.Core.List.{List}
use mir.Syntax.{w16}
use Prim.Native.Nat.{ℕ, ◌<◌}
use native.Mathlib.Omega.{arith}
use borrow.Author.Rules.{sfits_of}
use mir.Facts.{to_z-of_z}
use lib.ListN.{get_or}
use Rattle.bitreader.specs.Cursor.{SymbolGot, NextSymbol}
use Rattle.acplaces.specs.Going.{Going}
use Rattle.acplaces.proofs.Scan.{place_below}
use Rattle.acplaces.proofs.Going.{bare, going_start, going_same, going_at, going_bare, going_some, going_value, going_run, going_over}
use Rattle.acplaces.proofs.Onward.{same_place, after_both}
use Rattle.acplaces.proofs.read_block.Goals as goal
use Rattle.acplaces.proofs.read_block.Goals.{then-long-eq0, else-long-eq0}

pub loop-place-init : goal.loop-place-init
loop-place-init c = let s = c in subst (Going s.args.s.now s.args.at s.args.pending (bare s.args.at) s.args.pending) (sym s.requires.2) (going_start s.args.s.now s.args.at s.args.pending s.requires.1)

pub by_zeros-b-requires : goal.by_zeros-b-requires
by_zeros-b-requires c =
    let a = c.args in
    let l = c.loop-place in
    let g = c.by_table-a.ensures.goes a.s.now a.at a.pending (going_at a.s.now a.at a.pending (bare l.p) l.place l.nat l.invariant c.here-c.result c.here-c.ensures.0 c.here-c.ensures.1) in
    (g.holds.most, omega (arith, g.near, c.requires.0), g.few)

pub next_symbol-requires : goal.next_symbol-requires
next_symbol-requires c =
    let g = after_both c.loop-place.invariant c.here-c.ensures c.by_table-a.ensures c.by_zeros-b.ensures in
    (g.holds, omega (arith, g.near, c.requires.0))

pub unwrap-long-requires : goal.unwrap-long-requires
unwrap-long-requires c =
    let a = c.args in
    let b = c.by_zeros-b in
    let g = after_both c.loop-place.invariant c.here-c.ensures c.by_table-a.ensures b.ensures in
    let e : b.result.place < 64 = same_place c.by_table-a.ensures b.ensures c.here-c.ensures.1 c.if-d-p.true c.loop-place-test.true in
    going_some a.s.now a.at a.pending b.result.c b.result.place b.new.nat g e c.requires.3 c.next_symbol.result c.next_symbol.ensures

pub bounds-nat-k : goal.bounds-nat-k
bounds-nat-k c =
    let e : c.by_zeros-b.result.place < 64 = same_place c.by_table-a.ensures c.by_zeros-b.ensures c.here-c.ensures.1 c.if-d-p.true c.loop-place-test.true in
    place_below c.args.t.now.order c.by_zeros-b.result.place c.args.t.now.order_is e

pub loop-place-preserved-then-d-p : goal.loop-place-preserved-then-d-p
loop-place-preserved-then-d-p c =
    let a = c.args in
    let b = c.by_zeros-b in
    let g = after_both c.loop-place.invariant c.here-c.ensures c.by_table-a.ensures b.ensures in
    let e : b.result.place < 64 = same_place c.by_table-a.ensures b.ensures c.here-c.ensures.1 c.if-d-p.true c.loop-place-test.true in
    let x = c.unwrap-long.result in
    let n : SymbolGot a.s.now b.result.c x = subst (NextSymbol a.s.now b.result.c) c.unwrap-long.ensures c.next_symbol.ensures in
    elim c.if-long-eq0.branch [
      | then-long-eq0 w ↦
          going_same w.nat-is w.place-is (going_bare {c = x.c} (going_value a.s.now a.at a.pending b.result.c b.result.place b.new.nat g x e n w.if-long-eq0.true
          (to_z-of_z {w = w16} (sfits_of w.from_code.type_inv) ∙ w.from_code.ensures) (ap (λ (l : List ℕ). get_or l b.result.place 0) c.args.t.now.order_is)))
      | else-long-eq0 w ↦ going_same w.nat-is w.place-is (going_bare (going_run a.s.now a.at a.pending b.result.c b.result.place b.new.nat g x e n w.if-long-eq0.false))
    ]

pub loop-place-preserved : goal.loop-place-preserved
loop-place-preserved c = going_bare (after_both c.loop-place.invariant c.here-c.ensures c.by_table-a.ensures c.by_zeros-b.ensures)

pub returns : goal.returns
returns c =
    let l = c.loop-place in
    let a = c.args in
    going_over a.s.now a.at a.pending (bare l.p) l.place l.nat l.invariant c.loop-place-test.false
