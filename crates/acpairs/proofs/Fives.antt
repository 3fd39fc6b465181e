-- Five bits with a sign, by a shift that keeps the sign.
use mathlib.Core.Path.{◌≡◌, refl, ap, ◌∙◌}
use mathlib.Core.Bool.{Bool, true, false}
use Prim.Native.Nat.{ℕ, suc, ◌-◌, ◌/◌, ◌%◌, ◌^◌, ◌≤◌, ◌<◌}
use native.Mathlib.Omega.{arith}
use lib.IntN.{ℤ, pos, negsuc, neg_ℤ}
use lib.Signed.{shr_z}
use lib.Dec.{ltb}
use borrow.Author.Tests.{ltb-true, ltb-false, lt-ltb, le-ltb}
use mir.Syntax.{w16, w32}
use mir.Val.{to_z, sel}
use Rattle.scalar.specs.Scalar.{wrap16, sra_of}
use Rattle.scalar.proofs.Laws.{from_bits}
use Rattle.acpairs.specs.Parts.{signed_five, five_at}

minus : (n k : ℕ) → n ≡ suc k → negsuc k ≡ neg_ℤ (pos n)
minus n k e = rw e refl

shifted : (x : ℕ) → shr_z (to_z w16 (x % 65536)) 2048 ≡ five_at 11 x
shifted x = go (ltb (x % 65536) 32768) refl
  where
    go : (b : Bool) → ltb (x % 65536) 32768 ≡ b → shr_z (sel b (pos (x % 65536)) (negsuc (65536 - suc (x % 65536)))) 2048 ≡ five_at 11 x
    go true e =
        let h : x % 65536 < 32768 = ltb-true (x % 65536) 32768 e in
        let k : (x / 2 ^ 11) % 32 < 16 = omega arith in
        rw (lt-ltb ((x / 2 ^ 11) % 32) 16 k) (ap pos (omega arith))
    go false e =
        let h : 32768 ≤ x % 65536 = ltb-false (x % 65536) 32768 e in
        let k : 16 ≤ (x / 2 ^ 11) % 32 = omega arith in
        rw (le-ltb ((x / 2 ^ 11) % 32) 16 k) (minus (32 - (x / 2 ^ 11) % 32) ((65536 - suc (x % 65536)) / 2048) (omega arith))

pub five_is : (x : ℕ) → sra_of (wrap16 (to_z w32 (x % 65536))) 11 ≡ five_at 11 x
unfolding sra_of
five_is x = ap (λ (z : ℤ). shr_z z 2048) (from_bits (x % 65536) (omega arith)) ∙ shifted x

at : (m n : ℕ) → m ≡ n → signed_five (ltb (m % 32) 16) (m % 32) ≡ signed_five (ltb (n % 32) 16) (n % 32)
at m n h = rw h refl

pub first_is : (e : ℕ) → five_at 11 (e / 2 ^ 16) ≡ five_at 27 e
first_is e = at (e / 2 ^ 16 / 2 ^ 11) (e / 2 ^ 27) (omega arith)

pub last_is : (e : ℕ) → five_at 11 (e / 2 ^ 11) ≡ five_at 22 e
last_is e = at (e / 2 ^ 11 / 2 ^ 11) (e / 2 ^ 22) (omega arith)
