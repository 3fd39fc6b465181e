-- Sums and shifts of 16-bit numbers, by their residues modulo 65,536.
use mathlib.Core.Path.{◌≡◌, refl, sym, ap, ap₂, ◌∙◌}
use mathlib.Core.Bool.{Bool, true, false, cond}
use Prim.Native.Nat.{ℕ, zero, suc, ◌+◌, ◌*◌, ◌^◌, ◌/◌, ◌%◌, ◌-◌, ◌≤◌, ◌<◌}
use native.Mathlib.Omega.{arith}
use lib.IntN.{ℤ, pos, negsuc, neg_ℤ, sub_ℕ, ◌+ℤ◌, ◌-ℤ◌}
use lib.Signed.{mag}
use lib.Dec.{ltb}
use borrow.Author.Tests.{ltb-true, ltb-false}
use mir.Syntax.{w16}
use mir.Val.{to_z, of_z}
use mir.Facts.{to_z-of_z, of_z-to_z, sfits_to_z}
use Rattle.scalar.specs.Scalar.{mod_z, wrap16, add_of, sll_of}

-- what z leaves modulo 65,536
abbrev pub res : ℤ → ℕ
res z = mod_z z 65536

pub res_lt : (z : ℤ) → res z < 65536
res_lt (pos n) = omega arith
res_lt (negsuc n) = omega arith

res_sub : (a b : ℕ) → (res (sub_ℕ a b) + b) % 65536 ≡ a % 65536
res_sub a b = go (ltb a b) refl
  where
    go : (t : Bool) → ltb a b ≡ t → (res (cond t (negsuc (b - suc a)) (pos (a - b))) + b) % 65536 ≡ a % 65536
    go true e = let h : a < b = ltb-true a b e in omega arith
    go false e = let h : b ≤ a = ltb-false a b e in omega arith

pub res_add : (a b : ℤ) → res (a +ℤ b) ≡ (res a + res b) % 65536
res_add (pos a) (pos b) = omega arith
res_add (pos a) (negsuc b) = omega (arith, res_sub a (suc b), res_lt (sub_ℕ a (suc b)))
res_add (negsuc a) (pos b) = omega (arith, res_sub b (suc a), res_lt (sub_ℕ b (suc a)))
res_add (negsuc a) (negsuc b) = omega arith

pub res_neg : (z : ℤ) → (res (neg_ℤ z) + res z) % 65536 ≡ 0
res_neg (pos zero) = omega arith
res_neg (pos (suc n)) = omega arith
res_neg (negsuc n) = omega arith

-- a - b + b leaves what a leaves
pub res_less : (a b : ℤ) → (res (a -ℤ b) + res b) % 65536 ≡ res a
res_less a b = omega (arith, res_add a (neg_ℤ b), res_neg b, res_lt a, res_lt b, res_lt (neg_ℤ b))

pub res_bits : (z : ℤ) → mag z < 32768 → res z ≡ of_z w16 z
res_bits (pos n) h = omega arith
res_bits (negsuc n) h = omega arith

pub res_to_z : (n : ℕ) → n < 65536 → res (to_z w16 n) ≡ n
res_to_z n h = res_bits (to_z w16 n) (sfits_to_z {w = w16} {n = n} (record { fits = h })).sfits ∙ of_z-to_z {w = w16} {n = n} (record { fits = h })

pub bits_wrap : (z : ℤ) → of_z w16 (wrap16 z) ≡ res z
unfolding wrap16
bits_wrap z = of_z-to_z {w = w16} {n = res z} (record { fits = res_lt z })

-- the sum of two patterns
pub add_patterns : (x y : ℕ) → x < 65536 → y < 65536 → add_of (to_z w16 x) (to_z w16 y) ≡ to_z w16 ((x + y) % 65536)
unfolding add_of wrap16
add_patterns x y hx hy = ap (to_z w16) (res_add (to_z w16 x) (to_z w16 y) ∙ ap₂ (λ (a b : ℕ). (a + b) % 65536) (res_to_z x hx) (res_to_z y hy))

times : (d q e k x : ℕ) → d + q ≡ e + 65536 * k → d * x + q * x ≡ e * x + 65536 * (k * x)
times d q e k x p = (omega arith) ∙ ap (λ (n : ℕ). n * x) p ∙ (omega arith)

-- what is shifted by the same number adds up as it did before
shifted_sum : (d q e x : ℕ) → d < 65536 → q < 65536 → e < 65536 → (d + q) % 65536 ≡ e → (d * x % 65536 + q * x % 65536) % 65536 ≡ e * x % 65536
shifted_sum d q e x hd hq he s = omega (arith, times d q e ((d + q) / 65536) x (omega arith))

pub shift_add : (s : ℕ) (e q : ℤ) → mag e < 32768 → mag q < 32768 → add_of (sll_of (wrap16 (e -ℤ q)) s) (sll_of q s) ≡ sll_of e s
unfolding sll_of
shift_add s e q he hq =
    add_patterns (of_z w16 (wrap16 (e -ℤ q)) * 2 ^ s % 65536) (of_z w16 q * 2 ^ s % 65536) (omega arith) (omega arith)
    ∙ ap (to_z w16) (ap₂ (λ (a b : ℕ). (a * 2 ^ s % 65536 + b * 2 ^ s % 65536) % 65536) (bits_wrap (e -ℤ q)) (sym (res_bits q hq))
    ∙ shifted_sum (res (e -ℤ q)) (res q) (res e) (2 ^ s) (res_lt (e -ℤ q)) (res_lt q) (res_lt e) (res_less e q)
    ∙ ap (λ (a : ℕ). a * 2 ^ s % 65536) (res_bits e he))

pub shift_zero : (s : ℕ) → sll_of (pos 0) s ≡ pos 0
unfolding sll_of
shift_zero s = ap (to_z w16) none
  where
    none : 0 * 2 ^ s % 65536 ≡ 0
    none = omega arith

pub add_zero16 : (z : ℤ) → mag z < 32768 → add_of (pos 0) z ≡ z
unfolding add_of wrap16
add_zero16 z h = ap (to_z w16) (res_add (pos 0) z ∙ (omega (arith, res_lt z)) ∙ res_bits z h) ∙ to_z-of_z {w = w16} (record { sfits = h })

pub shift_fits : (s : ℕ) (z : ℤ) → mag (sll_of z s) < 32768
unfolding sll_of
shift_fits s z = (sfits_to_z {w = w16} {n = of_z w16 z * 2 ^ s % 65536} (record { fits = omega arith })).sfits
