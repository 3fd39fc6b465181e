-- A coded DC, shifted back, is off the quantised one by at most half a step; the coded DC stays small.
use mathlib.Core.Path.{◌≡◌, refl, ap, ◌∙◌}
use mathlib.Core.Bool.{Bool, true, false, cond}
use Prim.Native.Nat.{ℕ, zero, suc, ◌+◌, ◌*◌, ◌^◌, ◌/◌, ◌%◌, ◌-◌, ◌≤◌, ◌<◌}
use native.Mathlib.Nat.{mod-lt, div-add-mod', div-lt_iff_lt-mul, div-le_self}
use native.Mathlib.Omega.{arith}
use lib.IntN.{ℤ, pos, negsuc, nat_abs, sub_ℕ, ◌+ℤ◌, ◌-ℤ◌}
use lib.Signed.{mag, shr_z}
use lib.Dec.{ltb}
use lib.Pow.{pow_pos, pow_mono}
use borrow.Author.Tests.{ltb-true, ltb-false}
use mir.Syntax.{w16}
use mir.Val.{to_z}
use mir.Facts.{to_z-of_z, to_z_pos}
use Rattle.scalar.specs.Scalar.{wrap16, add_of, sra_of, sll_of}
use Rattle.bits.proofs.SignedBack.{wrap16_same}
use Rattle.calls.specs.Streams.{half_step, coded_dc}

-- two numbers that are no further apart than k
apart : (a b k : ℕ) → a ≤ b + k → b ≤ a + k → nat_abs (sub_ℕ a b) ≤ k
apart a b k p q = go (ltb a b) refl
  where
    go : (t : Bool) → ltb a b ≡ t → nat_abs (cond t (negsuc (b - suc a)) (pos (a - b))) ≤ k
    go true e = let h : a < b = ltb-true a b e in omega arith
    go false e = let h : b ≤ a = ltb-false a b e in omega arith

apart_pos : (r n k : ℕ) → r ≤ n + k → n ≤ r + k → nat_abs (pos r -ℤ pos n) ≤ k
apart_pos r zero k p q = omega arith
apart_pos r (suc n) k p q = apart r (suc n) k p q

-- a step and its half
record Half (s H : ℕ) : Type 0 where
  is : half_step s ≡ H
  half : 2 ^ s / 2 ≡ H
  twice : H + H ≤ 2 ^ s
  nearly : 2 ^ s ≤ H + H + 1
  small : H ≤ 16384
  some : 1 ≤ 2 ^ s

half_of : (s : ℕ) → s ≤ 15 → Half s (half_step s)
half_of zero h = record { is = refl; half = refl; twice = omega arith; nearly = omega arith; small = omega arith; some = omega arith }
half_of (suc g) h =
    let p : 2 ^ g ≤ 16384 = pow_mono {i = g} {j = 14} (omega arith) in
    record { is = refl; half = omega arith; twice = omega arith; nearly = omega arith; small = p; some = omega (arith, pow_pos g) }

-- shifted back
back_pos : (s m : ℕ) → m * 2 ^ s < 32768 → sll_of (pos m) s ≡ pos (m * 2 ^ s)
unfolding sll_of
back_pos s m h = ap (to_z w16) small ∙ to_z_pos w16 h
  where
    small : m * 2 ^ s % 65536 ≡ m * 2 ^ s
    small = omega arith

rest : (y q x : ℕ) → q ≤ y → (y - q) * x + q * x ≡ y * x
rest y q x l = grow (y - q) (omega arith)
  where
    grow : (d : ℕ) → d + q ≡ y → d * x + q * x ≡ y * x
    grow d e = rw (← e) (omega arith)

back_neg : (s m : ℕ) → m < 32768 → 1 ≤ suc m * 2 ^ s → suc m * 2 ^ s ≤ 32768 → sll_of (negsuc m) s ≡ negsuc (suc m * 2 ^ s - 1)
unfolding sll_of
back_neg s m hm lo hi = ap (to_z w16) word ∙ to_z-of_z {w = w16} {z = negsuc (suc m * 2 ^ s - 1)} (record { sfits = small })
  where
    small : suc m * 2 ^ s - 1 < 32768
    small = omega arith

    word : (65536 - suc m) * 2 ^ s % 65536 ≡ 65536 - suc (suc m * 2 ^ s - 1)
    word = omega (arith, rest 65536 (suc m) (2 ^ s) (omega arith))

-- the coded DC of a sum that is not cut
coded_is : (s : ℕ) (d x : ℤ) → d +ℤ pos (half_step s) ≡ x → mag x < 32768 → coded_dc s d ≡ shr_z x (2 ^ s)
unfolding coded_dc add_of sra_of
coded_is s d x e h = ap (λ (z : ℤ). shr_z z (2 ^ s)) (ap wrap16 e ∙ wrap16_same x h)

-- what is said of a DC: shifted back it is near, and it is small
pub record Near (s : ℕ) (d : ℤ) : Type 0 where
  pub near : nat_abs (sll_of (coded_dc s d) s -ℤ d) ≤ 2 ^ s / 2
  pub small : nat_abs (coded_dc s d) ≤ 2048

module _ (s H : ℕ) (h : Half s H) where
  -- the sum is pos a
  up_back : (a : ℕ) → a < 32768 → sll_of (pos (a / 2 ^ s)) s ≡ pos (a / 2 ^ s * 2 ^ s)
  up_back a l = back_pos s (a / 2 ^ s) (omega (arith, div-add-mod' a (2 ^ s)))

  less : (a : ℕ) → (a / 2 ^ s * 2 ^ s ≤ a) × (a < a / 2 ^ s * 2 ^ s + 2 ^ s)
  less a = (omega (arith, div-add-mod' a (2 ^ s)), omega (arith, div-add-mod' a (2 ^ s), mod-lt a (pow_pos s)))

  quotient : (a : ℕ) → a < 2049 * 2 ^ s → a / 2 ^ s ≤ 2048
  quotient a l = let q : a / 2 ^ s < 2049 = (div-lt_iff_lt-mul (pow_pos s)).1 l in omega arith

  near_pos : (n : ℕ) → n ≤ 2048 → Near s (pos n)
  near_pos n l = record { near = near'; small = small' }
    where
      coded : coded_dc s (pos n) ≡ pos ((n + H) / 2 ^ s)
      coded = coded_is s (pos n) (pos (n + H)) (ap (λ (x : ℕ). pos (n + x)) h.is) (omega (arith, h.small))

      back : sll_of (coded_dc s (pos n)) s ≡ pos ((n + H) / 2 ^ s * 2 ^ s)
      back = ap (λ (z : ℤ). sll_of z s) coded ∙ up_back (n + H) (omega (arith, h.small))

      near' : nat_abs (sll_of (coded_dc s (pos n)) s -ℤ pos n) ≤ 2 ^ s / 2
      near' = rw (back, h.half) (apart_pos ((n + H) / 2 ^ s * 2 ^ s) n H (less (n + H)).0 (omega (arith, (less (n + H)).1, h.nearly)))

      small' : nat_abs (coded_dc s (pos n)) ≤ 2048
      small' = rw coded (quotient (n + H) (omega (arith, h.twice, h.some)))

  near_low : (n : ℕ) → suc n ≤ H → Near s (negsuc n)
  near_low n l = record { near = near'; small = small' }
    where
      sum : negsuc n +ℤ pos (half_step s) ≡ pos (H - suc n)
      sum = ap (λ (x : ℕ). sub_ℕ x (suc n)) h.is ∙ go (ltb H (suc n)) refl
        where
          go : (t : Bool) → ltb H (suc n) ≡ t → cond t (negsuc (suc n - suc H)) (pos (H - suc n)) ≡ pos (H - suc n)
          go true e = absurd (let k : H < suc n = ltb-true H (suc n) e in omega arith)
          go false e = refl

      coded : coded_dc s (negsuc n) ≡ pos ((H - suc n) / 2 ^ s)
      coded = coded_is s (negsuc n) (pos (H - suc n)) sum (omega (arith, h.small))

      back : sll_of (coded_dc s (negsuc n)) s ≡ pos ((H - suc n) / 2 ^ s * 2 ^ s)
      back = ap (λ (z : ℤ). sll_of z s) coded ∙ up_back (H - suc n) (omega (arith, h.small))

      near' : nat_abs (sll_of (coded_dc s (negsuc n)) s -ℤ negsuc n) ≤ 2 ^ s / 2
      near' = rw (back, h.half) (omega (arith, (less (H - suc n)).0))

      small' : nat_abs (coded_dc s (negsuc n)) ≤ 2048
      small' = rw coded (quotient (H - suc n) (omega (arith, h.twice, h.some)))

  near_neg : (n : ℕ) → n < 2048 → H < suc n → Near s (negsuc n)
  near_neg n l k = record { near = near'; small = small' }
    where
      m : ℕ
      m = (n - H) / 2 ^ s

      b : ℕ
      b = suc m * 2 ^ s

      sum : negsuc n +ℤ pos (half_step s) ≡ negsuc (n - H)
      sum = ap (λ (x : ℕ). sub_ℕ x (suc n)) h.is ∙ go (ltb H (suc n)) refl
        where
          go : (t : Bool) → ltb H (suc n) ≡ t → cond t (negsuc (suc n - suc H)) (pos (H - suc n)) ≡ negsuc (n - H)
          go true e = ap negsuc (omega arith)
          go false e = absurd (let j : suc n ≤ H = ltb-false H (suc n) e in omega arith)

      coded : coded_dc s (negsuc n) ≡ negsuc m
      coded = coded_is s (negsuc n) (negsuc (n - H)) sum (omega arith)

      grown : b ≡ m * 2 ^ s + 2 ^ s
      grown = omega arith

      low : m ≤ n - H
      low = div-le_self (n - H) (2 ^ s)

      bounds : (1 ≤ b) × (n - H < b) × (b ≤ n - H + 2 ^ s)
      bounds = (omega (arith, grown, h.some), omega (arith, grown, (less (n - H)).1), omega (arith, grown, (less (n - H)).0))

      back : sll_of (coded_dc s (negsuc n)) s ≡ negsuc (b - 1)
      back = ap (λ (z : ℤ). sll_of z s) coded ∙ back_neg s m (omega (arith, low)) bounds.0 (omega (arith, bounds.2, h.nearly))

      near' : nat_abs (sll_of (coded_dc s (negsuc n)) s -ℤ negsuc n) ≤ 2 ^ s / 2
      near' = rw (back, h.half) (apart (suc n) (suc (b - 1)) H (omega (arith, bounds.0, bounds.1)) (omega (arith, bounds.0, bounds.2, h.nearly)))

      small' : nat_abs (coded_dc s (negsuc n)) ≤ 2048
      small' = rw coded (omega (arith, low))

  by_sign : (n : ℕ) → suc n ≤ 2048 → Near s (negsuc n)
  by_sign n l = go (ltb H (suc n)) refl
    where
      go : (t : Bool) → ltb H (suc n) ≡ t → Near s (negsuc n)
      go true e = near_neg n l (ltb-true H (suc n) e)
      go false e = near_low n (ltb-false H (suc n) e)

-- for every shift, and every DC from -2,048 to 2,048
pub dc_near : (s : ℕ) (d : ℤ) → s ≤ 15 → nat_abs d ≤ 2048 → Near s d
dc_near s (pos n) hs hd = near_pos s (half_step s) (half_of s hs) n hd
dc_near s (negsuc n) hs hd = by_sign s (half_step s) (half_of s hs) n hd

sub_self : (a b : ℕ) → nat_abs (sub_ℕ a b) ≤ 0 → a ≡ b
sub_self a b = go (ltb a b) refl
  where
    go : (t : Bool) → ltb a b ≡ t → nat_abs (cond t (negsuc (b - suc a)) (pos (a - b))) ≤ 0 → a ≡ b
    go true e z = absurd (omega arith)
    go false e z = let h : b ≤ a = ltb-false a b e in omega arith

-- two numbers whose difference is 0 are equal
pub no_difference : (a b : ℤ) → nat_abs (a -ℤ b) ≤ 0 → a ≡ b
no_difference (pos a) (pos zero) h = ap pos (omega arith)
no_difference (pos a) (pos (suc b)) h = ap pos (sub_self a (suc b) h)
no_difference (pos a) (negsuc b) h = absurd (omega arith)
no_difference (negsuc a) (pos zero) h = absurd (let z : 0 ≡ suc a = sub_self 0 (suc a) h in omega arith)
no_difference (negsuc a) (pos (suc b)) h = absurd (omega arith)
no_difference (negsuc a) (negsuc b) h = ap negsuc (let z : suc b ≡ suc a = sub_self (suc b) (suc a) h in omega arith)
