-- Numbers of 16 bits in 32, what is left of a number at 16 bits, and a shift right.
use Rattle.std.proofs.Common.{◌≡◌, ℕ, ◌%◌, ◌<◌, ap, ◌∙◌, subst, arith, to_z, of_z}
use native.Mathlib.Nat.{lt_of_le_of_lt}
use lib.IntN.{ℤ}
use lib.Signed.{shr_z, mag_shr}
use mir.Syntax.{Width, w16, w32}
use mir.Val.{SFits}
use mir.Facts.{to_z-of_z, to_z_pos, sfits_widen}
use Rattle.std.proofs.lemmas.Int.{SFits-int_wrap}
use Rattle.scalar.specs.cuts.Cuts.{wrap16}
use Rattle.scalar.proofs.Methods.{wrap16_is}

-- a number of 16 bits fits 32
pub wide16 : {z : ℤ} → SFits w16 z → SFits w32 z
wide16 h = sfits_widen tt h

-- its 16 bits, cast up and read back
pub back16 : {z : ℤ} → SFits w16 z → to_z w32 (of_z w32 (to_z w16 (of_z w16 z))) ≡ z
back16 h = ap (λ (x : ℤ). to_z w32 (of_z w32 x)) (to_z-of_z h) ∙ to_z-of_z (wide16 h)

pub wrap16_fits : (z : ℤ) → SFits w16 (wrap16 z)
wrap16_fits z = subst (SFits w16) (wrap16_is z) (SFits-int_wrap w16 z)

pub shr_fits : {w : Width} {z : ℤ} (m : ℕ) → SFits w z → SFits w (shr_z z m)
shr_fits {z} m h = record { sfits = lt_of_le_of_lt (mag_shr z m) h.sfits }

-- a 16-bit pattern, by way of a 32-bit number
pub from_bits : (n : ℕ) → n < 65536 → wrap16 (to_z w32 n) ≡ to_z w16 n
unfolding wrap16
from_bits n h =
    let k : n < 2147483648 = omega arith in
    let e : n % 65536 ≡ n = omega arith in
    rw (to_z_pos w32 k) (ap (to_z w16) e)
