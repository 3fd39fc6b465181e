-- Laws of magnitudes and signs.
use mathlib.Core.Path.{◌≡◌, refl, ◌∙◌}
use mathlib.Core.Bool.{true, false}
use Prim.Native.Nat.{ℕ, zero, suc, ◌%◌, ◌≤◌, ◌<◌}
use native.Mathlib.Omega.{arith}
use lib.IntN.{ℤ, pos, negsuc, neg_ℤ, nat_abs}
use lib.Signed.{lt_z}
use borrow.Author.Tests.{ltb-true}
use borrow.Author.Rules.{sfits_of}
use mir.Syntax.{w16}
use mir.Val.{SFits, Fits, of_z}
use mir.Facts.{of_z-to_z}
use Rattle.scalar.specs.Scalar.{abs_of, wrap16}
use Rattle.quant.specs.one.Sign.{with_sign}

pub magnitude_small : (x : ℤ) → SFits w16 x → nat_abs x ≤ 32768
magnitude_small (pos n) h = let k : n < 32768 = h.sfits in omega arith
magnitude_small (negsuc n) h = let k : n < 32768 = h.sfits in omega arith

-- the bits of the absolute value, read as unsigned, are the magnitude
pub abs_bits : (x : ℤ) → SFits w16 x → of_z w16 (abs_of x) ≡ nat_abs x
unfolding abs_of wrap16
abs_bits (pos n) h = refl
abs_bits (negsuc n) h =
    let k : n < 32768 = h.sfits in
    let e : suc n % 65536 ≡ suc n = omega arith in
    let f : Fits w16 (suc n % 65536) = record { fits = omega arith } in
    of_z-to_z {w = w16} f ∙ e

pub neg_small : (m : ℕ) → m < 32768 → SFits w16 (neg_ℤ (pos m))
neg_small zero h = sfits_of (omega arith)
neg_small (suc m) h = sfits_of (omega arith)

pub with_sign_neg : (x : ℤ) (m : ℕ) → lt_z x (pos 0) ≡ true → with_sign x m ≡ neg_ℤ (pos m)
unfolding with_sign
with_sign_neg (pos n) m e = absurd (omega (arith, ltb-true n 0 e))
with_sign_neg (negsuc n) m e = refl

pub with_sign_pos : (x : ℤ) (m : ℕ) → lt_z x (pos 0) ≡ false → with_sign x m ≡ pos m
unfolding with_sign
with_sign_pos (pos n) m e = refl
with_sign_pos (negsuc n) m e = cc

nat_abs_neg : (m : ℕ) → nat_abs (neg_ℤ (pos m)) ≡ m
nat_abs_neg zero = refl
nat_abs_neg (suc m) = refl

pub with_sign_abs : (x : ℤ) (m : ℕ) → nat_abs (with_sign x m) ≡ m
unfolding with_sign
with_sign_abs (pos n) m = refl
with_sign_abs (negsuc n) m = nat_abs_neg m
