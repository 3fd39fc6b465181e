-- A run code as a number: its head stands one place above the run. Assumes nothing.
use mathlib.Core.Path.{◌≡◌, sym, ap, ◌∙◌}
use Prim.Native.Nat.{ℕ, zero, suc, ◌+◌, ◌-◌, ◌*◌, ◌/◌, ◌^◌, ◌%◌, ◌≤◌, ◌<◌}
use native.Mathlib.Nat.{one-mul, mod-eq_of_lt, two-pow-succ}
use native.Mathlib.Omega.{arith}
use lib.Pow.{pow-lt}
use lib.Bits.{bit_or, or_shifted, or_zero_r}
use Rattle.bits.specs.Bits.{bit_length}
use Rattle.bits.proofs.Leading.{length_le, length_top}
use Rattle.bits.proofs.CodeWord.{value_fits}

half : (m : ℕ) → 2 ^ suc m / 2 ≡ 1 * 2 ^ m
half m = omega (arith, two-pow-succ m)

headed : (n b : ℕ) → b ≡ bit_length n → n < 2 ^ 31 → bit_or (2 ^ (2 * b) / 2) n ≡ 2 ^ (2 * b) / 2 + n
headed zero b e h = or_zero_r (2 ^ (2 * b) / 2) ∙ omega arith
headed (suc n) b e h =
    let t = length_top (suc n) (omega arith) (omega arith) in
    let k : 2 * b ≡ suc (2 * bit_length (suc n) - 1) = omega (arith, t.1) in
    let f : 2 ^ (2 * b) / 2 ≡ 1 * 2 ^ (2 * bit_length (suc n) - 1) = ap (λ (x : ℕ). 2 ^ x / 2) k ∙ half (2 * bit_length (suc n) - 1) in
    ap (λ (x : ℕ). bit_or x (suc n)) f ∙ or_shifted 1 (2 * bit_length (suc n) - 1) (suc n) (value_fits (suc n) (omega arith) (omega arith))
    ∙ ap (λ (x : ℕ). x + suc n) (sym f)

pub few : (n b : ℕ) → b ≡ bit_length n → n < 2 ^ 31 → b ≤ 31
few n b e h = omega (arith, length_le 31 n h)

pub run_number : (n b : ℕ) → b ≡ bit_length n → n < 2 ^ 31 → bit_or (1 * 2 ^ (2 * b) % 2 ^ 64 / 2) n ≡ 2 ^ (2 * b) / 2 + n
run_number n b e h =
    let w : 2 * b < 64 = omega (arith, few n b e h) in
    ap (λ (x : ℕ). bit_or (x % 2 ^ 64 / 2) n) (one-mul (2 ^ (2 * b))) ∙ ap (λ (x : ℕ). bit_or (x / 2) n) (mod-eq_of_lt (pow-lt w)) ∙ headed n b e h
