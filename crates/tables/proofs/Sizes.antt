-- How large the divisors are: two computed tests.
use mathlib.Core.Path.{◌≡◌, refl}
use mathlib.Core.Bool.{Bool}
use Prim.Native.Nat.{ℕ, zero, suc, ◌+◌, ◌*◌, ◌/◌, ◌%◌, ◌≤◌, ◌<◌}
use native.Mathlib.Omega.{arith}
use lib.Arith.{digits_div, digits_mod}
use lib.Dec.{T, leb, leb→le}
use lib.ListN.{get_or}
use Rattle.tables.specs.Divisor.{base_matrix, quality_factors, divisor}
use Rattle.tables.proofs.Every.{both, both_left, both_right, every_from, every}

-- a test at each preset and place
module _ (g : ℕ → ℕ → Bool) where
  abbrev pub each : ℕ → Bool
  each i = g (i / 64) (i % 64)

  pub at_each : T (every_from each 0 1600) → (p y : ℕ) → p < 25 → y < 64 → T (g p y)
  at_each t p y hp hy =
      let u : T (g ((p * 64 + y) / 64) ((p * 64 + y) % 64)) = every each 1600 t (p * 64 + y) (omega arith) in
      let e : (p * 64 + y) / 64 ≡ p = digits_div p hy in
      let e2 : (p * 64 + y) % 64 ≡ y = digits_mod p hy in
      rw (e, e2) at u

sized : ℕ → ℕ → Bool
sized p y = both (leb 16 (divisor p y)) (leb (divisor p y) 5312)

all_sized : T (every_from (each sized) 0 1600)
unfolding sized divisor base_matrix quality_factors
all_sized = tt

pub divisor_low : (p y : ℕ) → p < 25 → y < 64 → 16 ≤ divisor p y
unfolding sized
divisor_low p y hp hy = leb→le 16 (divisor p y) (both_left (leb 16 (divisor p y)) _ (at_each sized all_sized p y hp hy))

pub divisor_high : (p y : ℕ) → p < 25 → y < 64 → divisor p y ≤ 5312
unfolding sized
divisor_high p y hp hy = leb→le (divisor p y) 5312 (both_right (leb 16 (divisor p y)) _ (at_each sized all_sized p y hp hy))

last : ℕ → Bool
last p = leb 83 (divisor p 63)

last_sized : T (every_from last 0 25)
unfolding last divisor base_matrix quality_factors
last_sized = tt

-- the last place has the largest divisor of its preset
pub divisor_last : (p : ℕ) → p < 25 → 83 ≤ divisor p 63
unfolding last
divisor_last p hp = leb→le 83 (divisor p 63) (every last 25 last_sized p hp)

-- past place 0 a divisor is the product of the base matrix's entry and the preset's factor
pub divisor_first : (p f : ℕ) → f ≡ get_or quality_factors p 0 → 16 ≡ divisor p 0
unfolding divisor
divisor_first p f e = refl

pub divisor_product : (p y f : ℕ) → (y ≡ 0 → ⊥) → f ≡ get_or quality_factors p 0 → get_or base_matrix y 0 * f ≡ divisor p y
unfolding divisor
divisor_product p zero f n e = absurd (n refl)
divisor_product p (suc y) f n e = rw e refl

base_sized : ℕ → Bool
base_sized y = leb (get_or base_matrix y 0) 83

all_base : T (every_from base_sized 0 64)
unfolding base_sized base_matrix
all_base = tt

pub base_high : (y : ℕ) → y < 64 → get_or base_matrix y 0 ≤ 83
unfolding base_sized
base_high y h = leb→le (get_or base_matrix y 0) 83 (every base_sized 64 all_base y h)
