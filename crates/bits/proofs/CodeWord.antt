-- A code as one number of so many bits: what a writer puts. Assumes nothing.
use mathlib.Core.Path.{◌≡◌, refl, sym, ap, ap₂, ◌∙◌}
use mathlib.Core.Bool.{Bool, true}
use mathlib.Core.List.{List, ◌∷◌, ◌++◌}
use Prim.Native.Nat.{ℕ, zero, suc, ◌+◌, ◌-◌, ◌*◌, ◌/◌, ◌^◌, ◌≤◌, ◌<◌}
use native.Mathlib.Nat.{lt_of_lt_of_le, two-pow-succ, one-mul}
use native.Mathlib.Omega.{arith}
use lib.Pow.{pow_mono}
use lib.ListN.{length}
use Rattle.bits.specs.Bits.{bits_of, halvings, bit_length, spread, value_code, run_code, zero_step_code}
use Rattle.bits.proofs.Leading.{length_top, length_le}
use Rattle.bits.proofs.Pack.{bits_join, bits_wide}
use Rattle.bits.proofs.Codes.{length_bits_of}

-- the highest bit of a spread number is a one with as many zeros before it as bits after it
spread_number : (b c : ℕ) → c < 2 ^ suc b → spread (suc b) c ≡ bits_of (2 * suc b - 1) c
unfolding spread
spread_number b c h = let e : b + suc b ≡ 2 * suc b - 1 = omega arith in sym (bits_wide b (suc b) c h) ∙ ap (λ (x : ℕ). bits_of x c) e

pub value_number : (c : ℕ) → 0 < c → c < 2 ^ 64 → value_code c ≡ bits_of (2 * bit_length c - 1) c
unfolding value_code
value_number c p h = let t = length_top c p h in rw t.1 (spread_number t.0 c t.3)

pub value_fits : (c : ℕ) → 0 < c → c < 2 ^ 64 → c < 2 ^ (2 * bit_length c - 1)
value_fits c p h = let t = length_top c p h in lt_of_lt_of_le t.3 (pow_mono (omega (arith, t.1)))

pub value_length_lem : (c : ℕ) → 0 < c → c < 2 ^ 64 → length (value_code c) ≡ 2 * bit_length c - 1
value_length_lem c p h = ap length (value_number c p h) ∙ length_bits_of (2 * bit_length c - 1) c

-- a run code: its head, then the run as a value code has it
run_head : (n : ℕ) → run_code (suc n) ≡ true ∷ value_code (suc n)
unfolding run_code value_code
run_head n = refl

one_bit : (l : List Bool) → true ∷ l ≡ bits_of 1 1 ++ l
unfolding bits_of
one_bit l = refl

no_run : run_code 0 ≡ bits_of (2 * bit_length 0) (2 ^ (2 * bit_length 0) / 2 + 0)
unfolding run_code bit_length halvings bits_of
no_run = refl

half : (m : ℕ) → 2 ^ suc m / 2 ≡ 2 ^ m
half m = omega (arith, two-pow-succ m)

-- no run has no bits
pub run_number : (n : ℕ) → n < 2 ^ 64 → run_code n ≡ bits_of (2 * bit_length n) (2 ^ (2 * bit_length n) / 2 + n)
run_number zero h = no_run
run_number (suc n) h =
    let t = length_top (suc n) (omega arith) h in
    let m : ℕ = 2 * bit_length (suc n) - 1 in
    let e : 2 * bit_length (suc n) ≡ suc (2 * bit_length (suc n) - 1) = omega (arith, t.1) in
    let e1 : suc (2 * bit_length (suc n) - 1) ≡ 1 + (2 * bit_length (suc n) - 1) = omega arith in
    let f : 2 ^ (2 * bit_length (suc n)) / 2 ≡ 1 * 2 ^ (2 * bit_length (suc n) - 1) = ap (λ (x : ℕ). 2 ^ x / 2) e ∙ half (2 * bit_length (suc n) - 1) ∙ sym (one-mul (2 ^ (2 * bit_length (suc n) - 1))) in
    run_head n ∙ ap (λ (l : List Bool). true ∷ l) (value_number (suc n) (omega arith) h) ∙ one_bit (bits_of (2 * bit_length (suc n) - 1) (suc n))
    ∙ sym (bits_join 1 (2 * bit_length (suc n) - 1) 1 (suc n) (value_fits (suc n) (omega arith) h))
    ∙ ap₂ (λ (x y : ℕ). bits_of x (y + suc n)) (sym (e ∙ e1)) (sym f)

pub run_fits : (n : ℕ) → n < 2 ^ 64 → 2 ^ (2 * bit_length n) / 2 + n < 2 ^ (2 * bit_length n)
run_fits zero h = no_run_fits
  where
    no_run_fits : 2 ^ (2 * bit_length 0) / 2 + 0 < 2 ^ (2 * bit_length 0)
    no_run_fits = rw (none) (omega arith)
      where
        none : bit_length 0 ≡ 0
        none = omega (arith, length_le 0 0 (omega arith))
run_fits (suc n) h =
    let t = length_top (suc n) (omega arith) h in
    let v = value_fits (suc n) (omega arith) h in
    let e : 2 * bit_length (suc n) ≡ suc (2 * bit_length (suc n) - 1) = omega (arith, t.1) in
    let f : 2 ^ (2 * bit_length (suc n)) ≡ 2 ^ (2 * bit_length (suc n) - 1) + 2 ^ (2 * bit_length (suc n) - 1) = ap (λ (x : ℕ). 2 ^ x) e ∙ two-pow-succ (2 * bit_length (suc n) - 1) in
    omega (arith, v, f)

pub run_length_lem : (n : ℕ) → n < 2 ^ 64 → length (run_code n) ≡ 2 * bit_length n
run_length_lem n h = ap length (run_number n h) ∙ length_bits_of (2 * bit_length n) (2 ^ (2 * bit_length n) / 2 + n)

-- codes of small numbers are short
pub value_short : (k c : ℕ) → k ≤ 64 → 0 < c → c < 2 ^ k → length (value_code c) ≤ 2 * k - 1
value_short k c l p h = omega (arith, value_length_lem c p (lt_of_lt_of_le h (pow_mono {i = k} {j = 64} l)), length_le k c h)

pub run_short : (k n : ℕ) → k ≤ 64 → n < 2 ^ k → length (run_code n) ≤ 2 * k
run_short k n l h = omega (arith, run_length_lem n (lt_of_lt_of_le h (pow_mono {i = k} {j = 64} l)), length_le k n h)

-- a DC step of 0 is the two bits of 3
pub zero_step_lem : zero_step_code ≡ bits_of 2 3
unfolding bits_of
zero_step_lem = refl
