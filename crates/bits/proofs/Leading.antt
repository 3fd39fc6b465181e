-- The bit length by halving is the width less the leading zeros, at any width that holds the number. Assumes nothing.
use mathlib.Core.Path.{◌≡◌, refl, sym, ap, ◌∙◌, subst}
use Prim.Native.Nat.{ℕ, zero, suc, ◌+◌, ◌-◌, ◌/◌, ◌^◌, ◌≤◌, ◌<◌}
use native.Mathlib.Nat.{zero-add, add-zero, add-suc, le_refl, not-suc-le-zero}
use native.Mathlib.Numerals.{add-one}
use native.Mathlib.Omega.{arith}
use lib.Arith.{half_le, lt-one}
use lib.Pow.{shr_lt}
use lib.Count.{count_leading_zeros, leading_top}
use Rattle.bits.specs.Bits.{halvings, bit_length}

half_lt : (n k : ℕ) → n < 2 ^ suc k → n / 2 < 2 ^ k
half_lt n k h = shr_lt k 1 (subst (λ (x : ℕ). n < 2 ^ x) (sym (add-one k)) h)

none : (f : ℕ) → halvings f 0 ≡ 0
unfolding halvings
none zero = refl
none (suc f) = refl

halved : (k f n : ℕ) → n ≤ f → n < 2 ^ k → count_leading_zeros k n + halvings f n ≡ k
unfolding halvings count_leading_zeros
halved zero f n e h = zero-add (halvings f n) ∙ ap (halvings f) (lt-one h) ∙ none f
halved (suc k) f zero e h = ap (λ (x : ℕ). suc k + x) (none f) ∙ add-zero (suc k)
halved (suc k) zero (suc n) e h = absurd (not-suc-le-zero e)
halved (suc k) (suc f) (suc n) e h =
    add-suc (count_leading_zeros k (suc n / 2)) (halvings f (suc n / 2)) ∙ ap suc (halved k f (suc n / 2) (half_le e) (half_lt (suc n) k h))

pub length_leading : (k n : ℕ) → n < 2 ^ k → count_leading_zeros k n + bit_length n ≡ k
unfolding bit_length
length_leading k n h = halved k n n (le_refl n) h

-- the bit length at the width k
pub length_is : (k n : ℕ) → n < 2 ^ k → bit_length n ≡ k - count_leading_zeros k n
length_is k n h = omega (arith, length_leading k n h)

pub length_le : (k n : ℕ) → n < 2 ^ k → bit_length n ≤ k
length_le k n h = omega (arith, length_leading k n h)

-- a number of 64 bits that is not 0: its highest bit
pub length_top : (n : ℕ) → 0 < n → n < 2 ^ 64 → (j : ℕ) × (bit_length n ≡ suc j) × (2 ^ j ≤ n) × (n < 2 ^ suc j)
length_top n p h = let t = leading_top 64 n p h in (t.0, omega (arith, t.1, length_leading 64 n h), t.2, t.3)
