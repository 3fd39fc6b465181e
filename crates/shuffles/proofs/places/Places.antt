-- Laws of the places that lanes come from.
use mathlib.Core.Path.{◌≡◌, refl}
use mathlib.Core.Bool.{Bool, true, false, cond}
use Prim.Native.Nat.{ℕ, ◌+◌, ◌-◌, ◌/◌, ◌<◌, ◌≤◌}
use native.Mathlib.Omega.{arith}
use borrow.Author.Tests.{lt-ltb, le-ltb}
use lib.Dec.{ltb}
use Rattle.shuffles.specs.places.Chosen.{selector, pair_place, low_place, high_place}

pub selector_lt : (imm k : ℕ) → selector imm k < 4
unfolding selector
selector_lt imm k = omega arith

pub pair_lt : (imm k : ℕ) → k < 8 → pair_place imm k < 8
unfolding pair_place
pair_lt imm k h = omega (arith, selector_lt imm (k / 2))

pub low_selects : (imm k : ℕ) → k < 4 → selector imm k ≡ low_place imm k
unfolding low_place
low_selects imm k h = rw (lt-ltb k 4 h) refl

pub low_keeps : (imm k : ℕ) → 4 ≤ k → k ≡ low_place imm k
unfolding low_place
low_keeps imm k h = rw (le-ltb k 4 h) refl

pub low_lt : (imm k : ℕ) → k < 8 → low_place imm k < 8
unfolding low_place
low_lt imm k h = go (ltb k 4)
  where
    go : (b : Bool) → cond b (selector imm k) k < 8
    go true = omega (arith, selector_lt imm k)
    go false = h

pub high_keeps : (imm k : ℕ) → k < 4 → k ≡ high_place imm k
unfolding high_place
high_keeps imm k h = rw (lt-ltb k 4 h) refl

pub high_selects : (imm k : ℕ) → 4 ≤ k → 4 + selector imm (k - 4) ≡ high_place imm k
unfolding high_place
high_selects imm k h = rw (le-ltb k 4 h) refl

pub high_lt : (imm k : ℕ) → k < 8 → high_place imm k < 8
unfolding high_place
high_lt imm k h = go (ltb k 4)
  where
    go : (b : Bool) → cond b k (4 + selector imm (k - 4)) < 8
    go true = h
    go false = omega (arith, selector_lt imm (k - 4))
