-- The rounded-division rule: one test that antt computes over all 1,600 entries, and what follows for each.
use mathlib.Core.Path.{◌≡◌}
use mathlib.Core.Bool.{Bool}
use Prim.Native.Nat.{ℕ, zero, suc, ◌+◌, ◌*◌, ◌/◌, ◌≤◌, ◌<◌}
use native.Mathlib.Nat.{div-lt_iff_lt-mul, le_of_suc-le-suc}
use native.Mathlib.Omega.{arith}
use lib.Count.{count_leading_zeros}
use lib.Dec.{T, ltb, ltb→lt}
use Rattle.tables.specs.Divisor.{base_matrix, quality_factors, divisor}
use Rattle.tables.specs.Reciprocal.{shift_of, correction_of, reciprocal_of, scale_of, two_high, rounded}
use Rattle.tables.specs.Entries.{number_for, number_at, correction_at, reciprocal_at, scale_at}
use Rattle.tables.proofs.Every.{both, both_left, both_right, every_from}
use Rattle.tables.proofs.Rule.{good, rounds}
use Rattle.tables.proofs.Sizes.{each, at_each, divisor_low, divisor_last}

good_at : ℕ → ℕ → Bool
good_at p y = both (good (divisor p y) (correction_at p y) (reciprocal_at p y) (scale_at p y)) (ltb (correction_at p y) 32768)

all_good : T (every_from (each good_at) 0 1600)
unfolding good_at divisor base_matrix quality_factors number_at number_for correction_of reciprocal_of scale_of shift_of count_leading_zeros
all_good = tt

-- "For each entry and each x from 0 to 32,768, the two high multiplies yield (x + divisor/2) / divisor"
pub entry_rounds : (p y : ℕ) → p < 25 → y < 64 → (x : ℕ) → x ≤ 32768
    → two_high (correction_at p y) (reciprocal_at p y) (scale_at p y) x ≡ rounded x (divisor p y)
unfolding good_at
entry_rounds p y hp hy =
    rounds (divisor p y) (correction_at p y) (reciprocal_at p y) (scale_at p y)
    (both_left (good (divisor p y) (correction_at p y) (reciprocal_at p y) (scale_at p y)) _ (at_each good_at all_good p y hp hy))

-- the sum of a magnitude and a correction has 16 bits
pub correction_small : (p y : ℕ) → p < 25 → y < 64 → correction_at p y < 32768
unfolding good_at
correction_small p y hp hy =
    ltb→lt (correction_at p y) 32768
    (both_right (good (divisor p y) (correction_at p y) (reciprocal_at p y) (scale_at p y)) _ (at_each good_at all_good p y hp hy))

-- a rounded quotient is at most m where the divisor is large enough
rounded_below : (x d m : ℕ) → zero < d → x + d / 2 < suc m * d → rounded x d ≤ m
rounded_below x d m hd h = le_of_suc-le-suc ((div-lt_iff_lt-mul hd).1 h)

-- "So a quantised coefficient lies between -2,048 and 2,048."
pub rounded_bound : (p y : ℕ) → p < 25 → y < 64 → (x : ℕ) → x ≤ 32768 → rounded x (divisor p y) ≤ 2048
rounded_bound p y hp hy x hx =
    let h : 16 ≤ divisor p y = divisor_low p y hp hy in
    rounded_below x (divisor p y) 2048 (omega arith) (omega arith)

-- the finer bound at the last place of the scan, which the size of a block's AC codes needs
pub rounded_last : (p : ℕ) → p < 25 → (x : ℕ) → x ≤ 32768 → rounded x (divisor p 63) ≤ 395
rounded_last p hp x hx =
    let h : 83 ≤ divisor p 63 = divisor_last p hp in
    rounded_below x (divisor p 63) 395 (omega arith) (omega arith)
