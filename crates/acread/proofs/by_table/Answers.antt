-- `acread::by_table`: the loop over looks.
use mathlib.Core.Path.{ap, ◌∙◌}
use Prim.Native.Nat.{ℕ, ◌+◌, ◌-◌, ◌*◌, ◌/◌, ◌%◌, ◌^◌, ◌<◌}
use native.Mathlib.Omega.{arith}
use borrow.Author.Rules.{rules}
use lib.ListN.{get_or}
use Rattle.acpairs.specs.Parts.{before_last}
use Rattle.acpairs.proofs.Entry.{look_less}
use Rattle.acread.proofs.Table.{look_onward}
use Rattle.acread.proofs.by_table.Goals as goal

pub skip-c-requires : goal.skip-c-requires
skip-c-requires c =
    let l = c.loop-c in
    let i = l.c.bits / 2 ^ 54 in
    let e = get_or c.args.tab.now i 0 in
    let low : i < 1024 = search rules in
    let many = c.loop-c-test.true in
    let ee = c.requires.4 i low in
    let last : l.place + before_last e < 64 = omega (arith, c.if-last-ge64.false, c.before_last.ensures) in
    let n = look_less i e low ee l.place last in
    (omega (arith, n.1, c.taken.ensures, many), omega (arith, n.1, c.taken.ensures), omega (arith, l.invariant.1, c.requires.1, c.requires.0))

pub loop-c-smaller : goal.loop-c-smaller
loop-c-smaller c =
    let l = c.loop-c in
    let i = l.c.bits / 2 ^ 54 in
    let e = get_or c.args.tab.now i 0 in
    let low : i < 1024 = search rules in
    let many = c.loop-c-test.true in
    let ee = c.requires.4 i low in
    let last : l.place + before_last e < 64 = omega (arith, c.if-last-ge64.false, c.before_last.ensures) in
    let n = look_less i e low ee l.place last in
    omega (arith, n.0, c.skip-c.ensures.1, c.taken.ensures, many)

pub loop-c-preserved : goal.loop-c-preserved
loop-c-preserved c =
    let l = c.loop-c in
    let i = l.c.bits / 2 ^ 54 in
    let e = get_or c.args.tab.now i 0 in
    let low : i < 1024 = search rules in
    let many = c.loop-c-test.true in
    let ee = c.requires.4 i low in
    let last : l.place + before_last e < 64 = omega (arith, c.if-last-ge64.false, c.before_last.ensures) in
    let n = look_less i e low ee l.place last in
    let q = c.taken.ensures in
    let f = c.skip-c.ensures in
    let m = c.places-place.ensures in (
      look_onward c.args.a l.c l.place l.invariant.0 e (omega (arith, many)) low ee last c.skip-c.result
          (f.0 ∙ ap (λ (x : ℕ). l.c.pos + x) q) (f.1 ∙ ap (λ (x : ℕ). l.c.count - x) q) (f.2 ∙ ap (λ (x : ℕ). (l.c.bits * 2 ^ x) % 2 ^ 64) q) m,
      omega (arith, f.0, f.1, l.invariant.1, q, n.1, many),
      omega (arith, f.1, l.invariant.2),
      omega (arith, c.if-last-ge64.false, m),
    )
