-- The leading zeros of a word are the zeros of the stream. Assumes nothing.
use mathlib.Core.Path.{◌≡◌, refl, sym, ap, ◌∙◌}
use mathlib.Core.Bool.{Bool, true, false}
use mathlib.Core.Logic.{◌⊎◌, inl, inr, ⊎_elim}
use Prim.Native.Nat.{ℕ, suc, ◌+◌, ◌-◌, ◌*◌, ◌^◌, ◌≤◌, ◌<◌}
use native.Mathlib.Nat.{zero-mul, zero-add, lt_of_lt_of_le, le_trans, le_refl, lt_of_not-le, two-pow-succ, mul-le-mul_right, le_of_eq, suc-add}
use native.Mathlib.Omega.{arith}
use borrow.Author.Tests.{ltb-true, ltb-false}
use lib.Dec.{ltb}
use lib.Pow.{pow-add, pow_mono, shl_lt}
use lib.Count.{count_leading_zeros, leading_length, leading_unique}
use Rattle.bits.specs.Bits.{bit, Stream, num}
use Rattle.bits.specs.Read.{zeros}
use Rattle.bitreader.proofs.words.Num.{num_add, num_suc, num_lt, zeros_le, zeros_num, zeros_one}

pub lt_or_ge : (a b : ℕ) → (a < b) ⊎ (b ≤ a)
lt_or_ge a b = go (ltb a b) refl
  where
    go : (t : Bool) → ltb a b ≡ t → (a < b) ⊎ (b ≤ a)
    go true e = inl (ltb-true a b e)
    go false e = inr (ltb-false a b e)

-- a number below 2 ^ m has no more than m digits
pub lead_ge : (m w : ℕ) → m ≤ 64 → w < 2 ^ m → 64 ≤ m + count_leading_zeros 64 w
lead_ge m w h l =
    let t = leading_length 64 w (lt_of_lt_of_le l (pow_mono h)) in
    let q : t.0 < suc m = lt_of_not-le (λ (g : suc m ≤ t.0). absurd (omega (arith, pow_mono g, t.3, two-pow-succ m))) in
    omega (arith, t.1)

-- a number between two powers has that many digits
pub lead_is : (m w : ℕ) → m < 64 → 2 ^ m ≤ w → w < 2 ^ suc m → count_leading_zeros 64 w ≡ 63 - m
lead_is m w h lo hi = sym (leading_unique 64 w (63 - m) (suc m) (omega arith) hi (omega (arith, two-pow-succ m)))

-- the number that begins with a one
pub one_first : (m : ℕ) (s : Stream) (p : ℕ) → s p ≡ true → 2 ^ m ≤ num (suc m) 0 s p
one_first m s p e = omega (arith, num_suc m s p, ap (λ (b : Bool). bit b * 2 ^ m) e)

module _ (f n : ℕ) (s : Stream) (p w : ℕ) (e : w ≡ num n 0 s p * 2 ^ (64 - n)) (h : n ≤ 64) (l : f ≤ n) where
  many : f ≤ zeros f s p → f ≤ count_leading_zeros 64 w
  many g =
      let e1 : n ≡ f + (n - f) = omega arith in
      let a : num n 0 s p ≡ num (n - f) 0 s (p + f) = ap (λ (x : ℕ). num x 0 s p) e1 ∙ num_add f (n - f) s p
      ∙ ap (λ (x : ℕ). x * 2 ^ (n - f) + num (n - f) 0 s (p + f)) (zeros_num f f s p g) ∙ ap (λ (x : ℕ). x + num (n - f) 0 s (p + f)) (zero-mul (2 ^ (n - f))) ∙ zero-add (num (n - f) 0 s (p + f)) in
      let e2 : n - f + (64 - n) ≡ 64 - f = omega arith in
      let b : w < 2 ^ (64 - f) = rw (e, a, ← e2) (shl_lt (n - f) (64 - n) (num_lt (n - f) s (p + f))) in
      omega (arith, lead_ge (64 - f) w (omega arith) b)

  few : zeros f s p < f → count_leading_zeros 64 w ≡ zeros f s p
  few g = go (zeros f s p) (n - zeros f s p - 1) (omega arith) (zeros_num (zeros f s p) f s p (le_refl (zeros f s p))) (zeros_one f s p g)
    where
      go : (z m : ℕ) → n ≡ z + suc m → num z 0 s p ≡ 0 → s (p + z) ≡ true → count_leading_zeros 64 w ≡ z
      go z m e1 none one =
          let a : num n 0 s p ≡ num (suc m) 0 s (p + z) = ap (λ (x : ℕ). num x 0 s p) e1 ∙ num_add z (suc m) s p
          ∙ ap (λ (x : ℕ). x * 2 ^ suc m + num (suc m) 0 s (p + z)) none ∙ ap (λ (x : ℕ). x + num (suc m) 0 s (p + z)) (zero-mul (2 ^ suc m)) ∙ zero-add (num (suc m) 0 s (p + z)) in
          let b : w ≡ num (suc m) 0 s (p + z) * 2 ^ (64 - n) = e ∙ ap (λ (x : ℕ). x * 2 ^ (64 - n)) a in
          let lo : 2 ^ (m + (64 - n)) ≤ num (suc m) 0 s (p + z) * 2 ^ (64 - n) = le_trans (le_of_eq (pow-add 2 m (64 - n))) (mul-le-mul_right (2 ^ (64 - n)) (one_first m s (p + z) one)) in
          let hi : num (suc m) 0 s (p + z) * 2 ^ (64 - n) < 2 ^ (suc m + (64 - n)) = shl_lt (suc m) (64 - n) (num_lt (suc m) s (p + z)) in
          let k : suc m + (64 - n) ≡ suc (m + (64 - n)) = suc-add m (64 - n) in
          let lo' : 2 ^ (m + (64 - n)) ≤ w = rw b lo in
          let hi' : w < 2 ^ suc (m + (64 - n)) = rw (b, ← k) hi in
          lead_is (m + (64 - n)) w (omega arith) lo' hi' ∙ omega arith

  pub lead_few : count_leading_zeros 64 w < f → (count_leading_zeros 64 w ≡ zeros f s p) × (zeros f s p < f)
  lead_few g = ⊎_elim (λ q. (few q, q)) (λ q. absurd (omega (arith, many q))) (lt_or_ge (zeros f s p) f)

  pub lead_many : f ≤ count_leading_zeros 64 w → zeros f s p ≡ f
  lead_many g = ⊎_elim (λ q. absurd (omega (arith, few q))) (λ q. omega (arith, zeros_le f s p)) (lt_or_ge (zeros f s p) f)
