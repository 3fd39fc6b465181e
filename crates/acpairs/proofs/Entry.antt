-- What the entries have in common.
use mathlib.Core.Path.{◌≡◌, sym, subst}
use Prim.Native.Nat.{ℕ, ◌+◌, ◌≤◌, ◌<◌}
use native.Mathlib.Omega.{arith}
use lib.IntN.{ℤ}
use Rattle.bits.specs.Bits.{Stream}
use Rattle.acpairs.specs.Pairs.{ten_bits, look_of}
use Rattle.acpairs.specs.Parts.{taken_of, before_last, places_of, Sym, a_value_lem, a_run_lem, Held, none, one, two}
use Rattle.acpairs.proofs.Held.{held_ten}

-- a symbol takes a place
pub some : {s : Stream} {p q m : ℕ} {v : ℤ} → Sym s p q m v → 0 < m
some (a_value_lem c x em ev) = omega (arith, em)
some (a_run_lem x z ev) = z

-- no more than ten bits are taken, and some
pub entry_bits : (k : ℕ) → k < 1024 → before_last (look_of k) < 64 → (0 < taken_of (look_of k)) × (taken_of (look_of k) ≤ 10) × (0 < places_of (look_of k))
entry_bits k h b = go (held_ten k h)
  where
    go : Held (ten_bits k) 0 (look_of k) → (0 < taken_of (look_of k)) × (taken_of (look_of k) ≤ 10) × (0 < places_of (look_of k))
    go (none e) = absurd (omega (arith, b, e))
    go (one z t l w x) = (z, t, some x)
    go (two n z a t l m x y) = (z, t, omega (arith, m))

pub look_less : (k e : ℕ) → k < 1024 → e ≡ look_of k → (place : ℕ) → place + before_last e < 64 → (0 < taken_of e) × (taken_of e ≤ 10)
look_less k e h ee place last =
    let b = entry_bits k h (subst (λ (x : ℕ). before_last x < 64) ee (omega (arith, last))) in
    subst (λ (x : ℕ). (0 < taken_of x) × (taken_of x ≤ 10)) (sym ee) (b.0, b.1)
