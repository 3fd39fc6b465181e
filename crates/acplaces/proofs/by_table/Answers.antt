-- `acplaces::by_table`: the loop over looks.
use mir.Syntax.{w16}
use mathlib.Core.Path.{ap, ◌∙◌}
use mathlib.Core.List.{List}
use Prim.Native.Nat.{ℕ, ◌+◌, ◌-◌, ◌*◌, ◌/◌, ◌%◌, ◌^◌, ◌≤◌, ◌<◌}
use mir.Facts.{to_z-of_z}
use Rattle.tables.specs.Zigzag.{zigzag_at}
use Rattle.acpairs.specs.Parts.{before_last}
use lib.ListN.{get_or}
use native.Mathlib.Omega.{arith}
use borrow.Author.Rules.{rules, sfits_of}
use Rattle.acpairs.proofs.Entry.{look_less}
use Rattle.acplaces.proofs.Scan.{place_below}
use Rattle.acplaces.proofs.Table.{look_onward}
use Rattle.acplaces.proofs.by_table.Goals as goal

pub bounds-nat-i : goal.bounds-nat-i
bounds-nat-i c = place_below c.args.t.now.order c.loop-c.place c.args.t.now.order_is (omega (arith, c.if-last-ge64.false))

pub bounds-nat-j : goal.bounds-nat-j
bounds-nat-j c = place_below c.args.t.now.order (c.loop-c.place + c.before_last.result) c.args.t.now.order_is (omega (arith, c.if-last-ge64.false))

pub skip-c-requires : goal.skip-c-requires
skip-c-requires c =
    let k = c in
    let l = k.loop-c in
    let s = k in
    let low : l.c.bits / 2 ^ 54 < 1024 = search rules in
    let n = look_less (l.c.bits / 2 ^ 54) (get_or s.args.t.now.looks (l.c.bits / 2 ^ 54) 0) low (s.args.t.now.looks_are (l.c.bits / 2 ^ 54) low) l.place (omega (arith, k.if-last-ge64.false, k.before_last.ensures)) in
    (omega (arith, n.1, c.taken.ensures, k.loop-c-test.true, s.requires.3), omega (arith, n.1, c.taken.ensures), omega (arith, l.invariant.1, s.requires.1, s.requires.0))

pub loop-c-smaller : goal.loop-c-smaller
loop-c-smaller c =
    let k = c in
    let l = k.loop-c in
    let s = k in
    let low : l.c.bits / 2 ^ 54 < 1024 = search rules in
    let n = look_less (l.c.bits / 2 ^ 54) (get_or s.args.t.now.looks (l.c.bits / 2 ^ 54) 0) low (s.args.t.now.looks_are (l.c.bits / 2 ^ 54) low) l.place (omega (arith, k.if-last-ge64.false, k.before_last.ensures)) in
    omega (arith, n.0, c.skip-c.ensures.1, c.taken.ensures, k.loop-c-test.true, s.requires.3)

pub loop-c-preserved : goal.loop-c-preserved
loop-c-preserved c =
    let k = c in
    let l = k.loop-c in
    let s = k in
    let z = s.args.t.now.order in
    let low : l.c.bits / 2 ^ 54 < 1024 = search rules in
    let e = get_or s.args.t.now.looks (l.c.bits / 2 ^ 54) 0 in
    let last : l.place + before_last e < 64 = omega (arith, k.if-last-ge64.false, k.before_last.ensures) in
    let n = look_less (l.c.bits / 2 ^ 54) e low (s.args.t.now.looks_are (l.c.bits / 2 ^ 54) low) l.place last in
    let many : 10 ≤ l.c.count = omega (arith, k.loop-c-test.true, s.requires.3) in
    let v = c.first_value in
    let w = c.last_value in
    let q = c.taken.ensures in
    let f = c.skip-c.ensures in (
      rw c.places-place.ensures
          (look_onward s.args.a s.args.nat.now l.c l.place l.nat l.invariant.0 e many (s.args.t.now.looks_are (l.c.bits / 2 ^ 54) low) last c.skip-c.result
          (f.0 ∙ ap (λ (x : ℕ). l.c.pos + x) q) (f.1 ∙ ap (λ (x : ℕ). l.c.count - x) q) (f.2 ∙ ap (λ (x : ℕ). (l.c.bits * 2 ^ x) % 2 ^ 64) q) low
          (ap (λ (x : List ℕ). get_or x l.place 0) s.args.t.now.order_is)
          (ap (λ (x : List ℕ). get_or x (l.place + k.before_last.result) 0) s.args.t.now.order_is ∙ ap (λ (x : ℕ). zigzag_at (l.place + x)) k.before_last.ensures)
          (to_z-of_z {w = w16} (sfits_of v.type_inv) ∙ v.ensures) (to_z-of_z {w = w16} (sfits_of w.type_inv) ∙ w.ensures)),
      omega (arith, f.0, f.1, l.invariant.1, q, n.1, many),
      omega (arith, k.if-last-ge64.false, c.places-place.ensures),
    )
