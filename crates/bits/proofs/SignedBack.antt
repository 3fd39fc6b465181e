-- Signed numbers and their codes: the code of any number reads as its low 16 bits, so each number of 16 bits reads as itself.
use mathlib.Core.Path.{◌≡◌, refl, ap, ◌∙◌}
use Prim.Native.Nat.{ℕ, zero, suc, ◌+◌, ◌*◌, ◌/◌, ◌%◌, ◌≤◌, ◌<◌}
use native.Mathlib.Omega.{arith}
use lib.IntN.{ℤ, pos, negsuc, neg_ℤ, nat_abs}
use lib.Signed.{mag, lt_z}
use borrow.Author.Tests.{eq-eqb, ne_eqb, le-leb}
use mir.Syntax.{w16}
use mir.Val.{to_z, of_z}
use mir.Facts.{to_z-of_z}
use Rattle.scalar.specs.Scalar.{mod_z, wrap16}
use Rattle.bits.specs.Bits.{bit}
use Rattle.bits.specs.Signed.{code_of, signed_of}

pub signed_code : (d : ℤ) → signed_of (code_of d) ≡ wrap16 d
unfolding code_of signed_of
signed_code (pos zero) = refl
signed_code (pos (suc n)) = rw (eq-eqb ((2 * suc n + 1) % 2) 1 (omega arith)) (ap (λ (h : ℕ). wrap16 (pos h)) half)
  where
    half : (2 * suc n + 1) / 2 ≡ suc n
    half = omega arith
signed_code (negsuc n) = rw (ne_eqb ((2 * suc n) % 2) 1 (omega arith)) (ap (λ (h : ℕ). wrap16 (neg_ℤ (pos h))) half)
  where
    half : (2 * suc n) / 2 ≡ suc n
    half = omega arith

-- the code by the number's size and its sign, as code computes it
pub code_parts : (v : ℤ) → code_of v ≡ 2 * nat_abs v + bit (lt_z (pos 0) v)
unfolding code_of
code_parts (pos zero) = refl
code_parts (pos (suc n)) = rw (le-leb 1 (suc n) (omega arith))
code_parts (negsuc n) = omega arith

mod_bits : (z : ℤ) → mag z < 32768 → mod_z z 65536 ≡ of_z w16 z
mod_bits (pos n) h = omega arith
mod_bits (negsuc n) h = omega arith

-- a number of 16 bits is not cut
pub wrap16_same : (z : ℤ) → mag z < 32768 → wrap16 z ≡ z
unfolding wrap16
wrap16_same z h = ap (to_z w16) (mod_bits z h) ∙ to_z-of_z {w = w16} (record { sfits = h })

pub signed_back : (z : ℤ) → mag z < 32768 → signed_of (code_of z) ≡ z
signed_back z h = signed_code z ∙ wrap16_same z h

-- no number but 0 has a code below 2
pub code_value : (z : ℤ) → (z ≡ pos 0 → ⊥) → 2 ≤ code_of z
unfolding code_of
code_value (pos zero) ne = absurd (ne refl)
code_value (pos (suc n)) ne = omega arith
code_value (negsuc n) ne = omega arith

pub code_le : (z : ℤ) → code_of z ≤ 2 * nat_abs z + 1
unfolding code_of
code_le (pos zero) = omega arith
code_le (pos (suc n)) = omega arith
code_le (negsuc n) = omega arith
