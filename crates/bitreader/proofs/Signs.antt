-- The number of a code by unsigned arithmetic modulo 65,536. Assumes nothing.
use mathlib.Core.Path.{◌≡◌, refl, sym, ap, ◌∙◌}
use mathlib.Core.Bool.{Bool}
use Prim.Native.Nat.{ℕ, zero, suc, ◌-◌, ◌/◌, ◌%◌}
use native.Mathlib.Omega.{arith}
use lib.IntN.{pos, neg_ℤ}
use borrow.Author.Tests.{eq-eqb, ne_eqb}
use mir.Syntax.{w16, w32}
use mir.Val.{to_z}
use Rattle.scalar.specs.Scalar.{mod_z, wrap16}
use Rattle.scalar.proofs.Laws.{from_bits}
use Rattle.bits.specs.Signed.{by_sign, signed_of}

pub code_odd : (c : ℕ) → c % 2 ≡ 1 → wrap16 (to_z w32 (c / 2 % 65536)) ≡ signed_of c
unfolding signed_of wrap16
code_odd c h = from_bits (c / 2 % 65536) (omega arith) ∙ sym (ap (λ (b : Bool). wrap16 (by_sign b (c / 2))) (eq-eqb (c % 2) 1 h))

neg_mod : (n : ℕ) → (65536 - n % 65536) % 65536 ≡ mod_z (neg_ℤ (pos n)) 65536
neg_mod zero = refl
neg_mod (suc n) = omega arith

pub code_even : (c : ℕ) → (c % 2 ≡ 1 → ⊥) → wrap16 (to_z w32 ((65536 - c / 2 % 65536) % 65536)) ≡ signed_of c
unfolding signed_of wrap16
code_even c h =
    from_bits ((65536 - c / 2 % 65536) % 65536) (omega arith) ∙ ap (to_z w16) (neg_mod (c / 2))
    ∙ sym (ap (λ (b : Bool). wrap16 (by_sign b (c / 2))) (ne_eqb (c % 2) 1 h))
