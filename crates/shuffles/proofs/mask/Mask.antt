-- The mask's bit k tells whether number k is not 0.
use mathlib.Core.Path.{◌≡◌, sym, ap, ◌∙◌}
use mathlib.Core.List.{List, [], ◌∷◌}
use Prim.Native.Nat.{ℕ, zero, suc, ◌+◌, ◌*◌, ◌/◌, ◌%◌, ◌^◌, ◌≤◌}
use native.Mathlib.Omega.{arith}
use lib.IntN.{ℤ, pos, negsuc}
use lib.Pow.{shr_le, shr-shr}
use Rattle.scalar.specs.Tab.{lane}
use Rattle.shuffles.specs.mask.Mask.{flag, nonzero_mask}

flag_le : (x : ℤ) → flag x ≤ 1
unfolding flag
flag_le (pos zero) = omega arith
flag_le (pos (suc n)) = omega arith
flag_le (negsuc n) = omega arith

-- the mask's bit i is the flag of number i
pub mask_bit : (l : List ℤ) (i : ℕ) → nonzero_mask l / 2 ^ i % 2 ≡ flag (lane l i)
unfolding nonzero_mask flag
mask_bit [] i =
    let e : 0 / 2 ^ i ≡ 0 = omega (arith, shr_le 0 i) in
    ap (λ (n : ℕ). n % 2) e
mask_bit (x ∷ xs) zero = omega (arith, flag_le x)
mask_bit (x ∷ xs) (suc i) =
    let h : (flag x + 2 * nonzero_mask xs) / 2 ≡ nonzero_mask xs = omega (arith, flag_le x) in
    let e : suc i ≡ 1 + i = omega arith in
    ap (λ (n : ℕ). (flag x + 2 * nonzero_mask xs) / 2 ^ n % 2) e ∙ ap (λ (n : ℕ). n % 2) (sym (shr-shr (flag x + 2 * nonzero_mask xs) 1 i) ∙ ap (λ (n : ℕ). n / 2 ^ i) h) ∙ mask_bit xs i
