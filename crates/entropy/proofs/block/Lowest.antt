-- The lowest bit of a number: where it is, and the number without it.
use mathlib.Core.Path.{◌≡◌, refl, sym, ap, ap₂, ◌∙◌}
use Prim.Native.Nat.{ℕ, zero, suc, ◌+◌, ◌-◌, ◌*◌, ◌^◌, ◌<◌}
use native.Mathlib.Nat.{zero-add, mul-one, one-mul, add-mul, mul_assoc, suc-mul, two-pow-succ}
use native.Mathlib.Omega.{arith}
use lib.Bits.{bit_and, and_block, and_self, and_shifted, shifted_half, shifted_even}
use lib.Count.{count_trailing_zeros, under}
use lib.Pow.{pow-add, pow_pos}

-- zeros below a number shifted left
pub shifted : (a f n : ℕ) → count_trailing_zeros (a + f) (n * 2 ^ a) ≡ a + count_trailing_zeros f n
unfolding count_trailing_zeros
shifted zero f n = ap₂ count_trailing_zeros (zero-add f) (mul-one n) ∙ sym (zero-add (count_trailing_zeros f n))
shifted (suc a) f n =
    let e : suc a + f ≡ suc (a + f) = omega arith in
    let g : suc (a + count_trailing_zeros f n) ≡ suc a + count_trailing_zeros f n = omega arith in
    ap (λ (k : ℕ). count_trailing_zeros k (n * 2 ^ suc a)) e
    ∙ ap₂ (λ (d k : ℕ). under d (count_trailing_zeros (a + f) k)) (shifted_even n a) (shifted_half n a) ∙ ap suc (shifted a f n) ∙ g

-- and a number that is not 0 stays so
pub none_left : (n a : ℕ) → n * 2 ^ a ≡ 0 → n ≡ 0
none_left zero a e = refl
none_left (suc n) a e = absurd (omega (arith, suc-mul n (2 ^ a), pow_pos a))

-- a number of twice the size
pub doubled : (m n q t : ℕ) → m ≡ 2 * n → n ≡ q * 2 ^ suc t + 2 ^ t → m ≡ q * 2 ^ suc (suc t) + 2 ^ suc t
doubled m n q t e f =
    let s : q * 2 ^ suc (suc t) ≡ 2 * (q * 2 ^ suc t) = ap (λ (k : ℕ). q * k) (two-pow-succ (suc t)) ∙ twice q (2 ^ suc t) in
    omega (arith, two-pow-succ t)
  where
    twice : (q x : ℕ) → q * (x + x) ≡ 2 * (q * x)
    twice zero x = omega arith
    twice (suc q) x = omega (arith, suc-mul q (x + x), suc-mul q x, twice q x)

pub scaled : (m n q a t : ℕ) → m ≡ n * 2 ^ a → n ≡ q * 2 ^ suc t + 2 ^ t → m ≡ q * 2 ^ suc (a + t) + 2 ^ (a + t)
scaled m n q a t e f =
    let s : suc t + a ≡ suc (a + t) = omega arith in
    let r : t + a ≡ a + t = omega arith in
    e ∙ ap (λ (k : ℕ). k * 2 ^ a) f ∙ add-mul (q * 2 ^ suc t) (2 ^ t) (2 ^ a)
    ∙ ap₂ ◌+◌
    (mul_assoc q (2 ^ suc t) (2 ^ a) ∙ ap (λ (k : ℕ). q * k) (sym (pow-add 2 (suc t) a) ∙ ap (λ (k : ℕ). 2 ^ k) s))
    (sym (pow-add 2 t a) ∙ ap (λ (k : ℕ). 2 ^ k) r)

-- the number without its lowest bit
pub cleared : (m q p : ℕ) → m ≡ q * 2 ^ suc p + 2 ^ p → bit_and m (m - 1) ≡ q * 2 ^ suc p
cleared m q p e =
    let s : m - 1 ≡ q * 2 ^ suc p + (2 ^ p - 1) = omega (arith, pow_pos p) in
    let h : 2 ^ p < 2 ^ suc p = omega (arith, two-pow-succ p, pow_pos p) in
    let l : 2 ^ p - 1 < 2 ^ p = omega (arith, pow_pos p) in
    let k : 2 ^ p - 1 < 2 ^ suc p = omega arith in
    ap₂ bit_and e s ∙ and_block (suc p) q q (2 ^ p) (2 ^ p - 1) h k
    ∙ ap₂ (λ (x y : ℕ). x * 2 ^ suc p + y) (and_self q) (ap (λ (x : ℕ). bit_and x (2 ^ p - 1)) (sym (one-mul (2 ^ p))) ∙ and_shifted 1 p (2 ^ p - 1) l)
    ∙ omega arith
