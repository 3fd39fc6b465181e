-- The low 16 bits of a product are the same where a factor of 16 bits is read as signed.
use mathlib.Core.Path.{◌≡◌, refl, sym, ap}
use mathlib.Core.Bool.{Bool, true, false}
use Prim.Native.Nat.{ℕ, zero, suc, ◌+◌, ◌*◌, ◌-◌, ◌%◌, ◌<◌}
use native.Mathlib.Nat.{mul-add}
use native.Mathlib.Omega.{arith}
use lib.Dec.{ltb}
use lib.IntN.{ℤ, pos, negsuc, neg_ℤ, ◌*ℤ◌}
use mir.Syntax.{w16}
use mir.Val.{to_z, sel}
use Rattle.scalar.specs.Scalar.{mod_z, wrap16, mullo_of}

-- x and y add up to a multiple of 65536
mod_opposite : (a x y : ℕ) → x + y ≡ a * 65536 → mod_z (neg_ℤ (pos x)) 65536 ≡ y % 65536
mod_opposite a zero y e = omega arith
mod_opposite a (suc x) y e = omega arith

both : (a d : ℕ) → d < 65536 → a * (65536 - d) + a * d ≡ a * 65536
both a d h =
    let e : 65536 - d + d ≡ 65536 = omega arith in
    rw (← mul-add a (65536 - d) d, e)

-- the factor d, read as signed: 65536 less
below_zero : (a : ℤ) (d : ℕ) → d < 65536 → mod_z (a *ℤ negsuc (65536 - suc d)) 65536 ≡ mod_z (a *ℤ pos d) 65536
below_zero (pos a) d h =
    let s : suc (65536 - suc d) ≡ 65536 - d = omega arith in
    mod_opposite a (a * suc (65536 - suc d)) (a * d) (rw s (both a d h))
below_zero (negsuc a) d h =
    let s : suc (65536 - suc d) ≡ 65536 - d = omega arith in
    sym (mod_opposite (suc a) (suc a * d) (suc a * suc (65536 - suc d)) (rw s (omega (arith, both (suc a) d h))))

pub low_unsigned : (a : ℤ) (d : ℕ) → d < 65536 → mullo_of a (to_z w16 d) ≡ mullo_of a (pos d)
unfolding mullo_of wrap16
low_unsigned a d h = ap (to_z w16) (go (ltb d 32768) refl)
  where
    go : (t : Bool) → ltb d 32768 ≡ t → mod_z (a *ℤ sel t (pos d) (negsuc (65536 - suc d))) 65536 ≡ mod_z (a *ℤ pos d) 65536
    go true e = refl
    go false e = below_zero a d h
