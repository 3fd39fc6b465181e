-- Ten bits as a number, and the bits of that number.
use mathlib.Core.Path.{◌≡◌, sym, ap, ◌∙◌}
use mathlib.Core.Bool.{Bool, true, false}
use Prim.Native.Nat.{ℕ, zero, suc, ◌+◌, ◌*◌, ◌-◌, ◌/◌, ◌%◌, ◌^◌, ◌<◌}
use native.Mathlib.Nat.{add-zero, add-suc, suc-add, pow-suc, not-suc-le-zero, le_of_suc-le-suc, div-div-eq-div-mul}
use native.Mathlib.Omega.{arith}
use borrow.Author.Tests.{eq-eqb, ne_eqb}
use Rattle.bits.specs.Bits.{Stream, bit, odd, num}
use Rattle.acpairs.specs.Pairs.{ten_bits}
use Rattle.acpairs.proofs.Alike.{Alike}

-- the digits in front stay
before : (k a : ℕ) (s : Stream) (p : ℕ) → num k a s p / 2 ^ k ≡ a
unfolding num
before zero a s p = omega arith
before (suc k) a s p = rw (pow-suc 2 k) (sym (div-div-eq-div-mul (num k (a * 2 + bit (s p)) s (suc p)) (2 ^ k) 2) ∙ ap (λ (x : ℕ). x / 2) (before k (a * 2 + bit (s p)) s (suc p)) ∙ half (s p))
  where
    half : (b : Bool) → (a * 2 + bit b) / 2 ≡ a
    half true = omega arith
    half false = omega arith

is_odd : (a : ℕ) (b : Bool) → odd (a * 2 + bit b) ≡ b
is_odd a true = eq-eqb ((a * 2 + 1) % 2) 1 (omega arith)
is_odd a false = ne_eqb ((a * 2 + 0) % 2) 1 (omega arith)

digit : (k a : ℕ) (s : Stream) (p j : ℕ) → j < k → odd (num k a s p / 2 ^ (k - suc j)) ≡ s (p + j)
unfolding num
digit zero a s p j h = absurd (not-suc-le-zero h)
digit (suc k) a s p zero h =
    let e : suc k - 1 ≡ k = omega arith in
    rw e (ap odd (before k (a * 2 + bit (s p)) s (suc p)) ∙ is_odd a (s p) ∙ ap s (sym (add-zero p)))
digit (suc k) a s p (suc j) h =
    let e : suc k - suc (suc j) ≡ k - suc j = omega arith in
    rw e (digit k (a * 2 + bit (s p)) s (suc p) j (le_of_suc-le-suc h) ∙ ap s (suc-add p j ∙ sym (add-suc p j)))

pub ten_alike : (s : Stream) (p : ℕ) → Alike 10 (ten_bits (num 10 0 s p)) s p
unfolding ten_bits
ten_alike s p j h =
    let e : 9 - j ≡ 10 - suc j = omega arith in
    rw e (digit 10 0 s p j h)

pub ten_less : (s : Stream) (p : ℕ) → num 10 0 s p < 1024
ten_less s p = omega (arith, before 10 0 s p)
