-- Laws of the bits of a stream: as numbers, and the zeros before a one. Assumes nothing.
use mathlib.Core.Path.{◌≡◌, refl, sym, ap, ap₂, ◌∙◌}
use mathlib.Core.Bool.{Bool, true, false}
use Prim.Native.Nat.{ℕ, zero, suc, ◌+◌, ◌-◌, ◌*◌, ◌/◌, ◌%◌, ◌^◌, ◌≤◌, ◌<◌, suc-le-suc}
use native.Mathlib.Nat.{zero-add, add-zero, add-suc, suc-add, pow-suc, two-pow-succ, mod-eq_of_lt, mul-add-mod_self_right, le_of_suc-le-suc, le_refl, mod-one, not-suc-le-zero}
use native.Mathlib.Numerals.{one-add}
use native.Mathlib.Omega.{arith}
use lib.Dec.{lit<}
use lib.Arith.{digits_div}
use lib.Pow.{pow-add, shl_lt, mod-pow-add}
use Rattle.bits.specs.Bits.{bit, odd, Stream, num}
use Rattle.bits.specs.Read.{unless_one, zeros}
use Rattle.bits.proofs.Codes.{bit_odd}

-- ---- the bits at a place, as a number

-- the digits in front
pub num_acc : (k a : ℕ) (s : Stream) (p : ℕ) → num k a s p ≡ a * 2 ^ k + num k 0 s p
unfolding num
num_acc zero a s p = omega arith
num_acc (suc k) a s p =
    let e = num_acc k (a * 2 + bit (s p)) s (suc p) in
    let f = num_acc k (0 * 2 + bit (s p)) s (suc p) in
    rw (e, f, pow-suc 2 k) (omega arith)

pub num_suc : (k : ℕ) (s : Stream) (p : ℕ) → num (suc k) 0 s p ≡ bit (s p) * 2 ^ k + num k 0 s (suc p)
unfolding num
num_suc k s p = num_acc k (0 * 2 + bit (s p)) s (suc p) ∙ omega arith

split : (m n a : ℕ) (s : Stream) (p : ℕ) → num (m + n) a s p ≡ num n (num m a s p) s (p + m)
unfolding num
split zero n a s p = rw (zero-add n, add-zero p)
split (suc m) n a s p = rw (suc-add m n, add-suc p m) (split m n (a * 2 + bit (s p)) s (suc p) ∙ ap (num n (num m (a * 2 + bit (s p)) s (suc p)) s) (suc-add p m))

-- m bits, and n bits after them
pub num_add : (m n : ℕ) (s : Stream) (p : ℕ) → num (m + n) 0 s p ≡ num m 0 s p * 2 ^ n + num n 0 s (p + m)
num_add m n s p = split m n 0 s p ∙ num_acc n (num m 0 s p) s (p + m)

bit_le : (b : Bool) (q : ℕ) → bit b * q ≤ q
bit_le true q = omega arith
bit_le false q = omega arith

pub num_lt : (k : ℕ) (s : Stream) (p : ℕ) → num k 0 s p < 2 ^ k
unfolding num
num_lt zero s p = lit< tt
num_lt (suc k) s p = omega (arith, num_suc k s p, num_lt k s (suc p), bit_le (s p) (2 ^ k), two-pow-succ k)

less : (k j : ℕ) → suc k - suc (suc j) ≡ k - suc j
less k j = omega arith

-- bits that are those of n
pub num_of : (k n : ℕ) (s : Stream) (p : ℕ) → ((j : ℕ) → j < k → s (p + j) ≡ odd (n / 2 ^ (k - suc j))) → num k 0 s p ≡ n % 2 ^ k
unfolding num
num_of zero n s p h = sym (mod-one n)
num_of (suc k) n s p h =
    let k1 : suc k - 1 ≡ k = omega arith in
    let e : s p ≡ odd (n / 2 ^ k) = ap s (sym (add-zero p)) ∙ h 0 (omega arith) ∙ ap (λ (x : ℕ). odd (n / 2 ^ x)) k1 in
    let r : num k 0 s (suc p) ≡ n % 2 ^ k = num_of k n s (suc p) (λ j l. ap s (suc-add p j ∙ sym (add-suc p j)) ∙ h (suc j) (suc-le-suc l) ∙ ap (λ (x : ℕ). odd (n / 2 ^ x)) (less k j)) in
    num_suc k s p ∙ ap₂ (λ (x y : ℕ). x * 2 ^ k + y) (ap bit e ∙ bit_odd (n / 2 ^ k)) r
    ∙ sym (mod-pow-add n 1 k) ∙ ap (λ (x : ℕ). n % 2 ^ x) (one-add k)

apart : (n m k : ℕ) (s : Stream) (p : ℕ) → num (n + m) 0 s p * 2 ^ k ≡ num n 0 s p * 2 ^ (m + k) + num m 0 s (p + n) * 2 ^ k
apart n m k s p = rw (num_add n m s p, pow-add 2 m k) (omega arith)

-- a word moved up: its n highest bits fall off
pub num_rest : (n m k : ℕ) (s : Stream) (p : ℕ) → (num (n + m) 0 s p * 2 ^ k) % 2 ^ (m + k) ≡ num m 0 s (p + n) * 2 ^ k
num_rest n m k s p =
    ap (λ (x : ℕ). x % 2 ^ (m + k)) (apart n m k s p) ∙ mul-add-mod_self_right (num n 0 s p) (2 ^ (m + k)) (num m 0 s (p + n) * 2 ^ k)
    ∙ mod-eq_of_lt (shl_lt m k (num_lt m s (p + n)))

-- a word moved down: its n highest bits
pub num_top : (n m k : ℕ) (s : Stream) (p : ℕ) → (num (n + m) 0 s p * 2 ^ k) / 2 ^ (m + k) ≡ num n 0 s p
num_top n m k s p = ap (λ (x : ℕ). x / 2 ^ (m + k)) (apart n m k s p) ∙ digits_div (num n 0 s p) (shl_lt m k (num_lt m s (p + n)))

-- ---- the zeros at a place

pub zeros_le : (f : ℕ) (s : Stream) (p : ℕ) → zeros f s p ≤ f
unfolding zeros
zeros_le zero s p = le_refl 0
zeros_le (suc f) s p = go (s p) (zeros_le f s (suc p))
  where
    go : (b : Bool) → zeros f s (suc p) ≤ f → unless_one b (zeros f s (suc p)) ≤ suc f
    go true h = omega arith
    go false h = suc-le-suc h

pub zeros_num : (z f : ℕ) (s : Stream) (p : ℕ) → z ≤ zeros f s p → num z 0 s p ≡ 0
unfolding num zeros
zeros_num zero f s p h = refl
zeros_num (suc z) zero s p h = absurd (not-suc-le-zero h)
zeros_num (suc z) (suc f) s p h = go (s p) refl h (λ l. zeros_num z f s (suc p) l)
  where
    go : (b : Bool) → s p ≡ b → suc z ≤ unless_one b (zeros f s (suc p)) → (z ≤ zeros f s (suc p) → num z 0 s (suc p) ≡ 0) → num z (0 * 2 + bit (s p)) s (suc p) ≡ 0
    go true e l r = absurd (not-suc-le-zero l)
    go false e l r = rw e (r (le_of_suc-le-suc l))

-- after fewer zeros than are counted stands a one
pub zeros_one : (f : ℕ) (s : Stream) (p : ℕ) → zeros f s p < f → s (p + zeros f s p) ≡ true
unfolding zeros
zeros_one zero s p h = absurd (not-suc-le-zero h)
zeros_one (suc f) s p h = go (s p) refl h (λ l. zeros_one f s (suc p) l)
  where
    go : (b : Bool) → s p ≡ b → unless_one b (zeros f s (suc p)) < suc f → (zeros f s (suc p) < f → s (suc p + zeros f s (suc p)) ≡ true)
        → s (p + unless_one b (zeros f s (suc p))) ≡ true
    go true e l r = rw add-zero e
    go false e l r = ap s (add-suc p (zeros f s (suc p)) ∙ sym (suc-add p (zeros f s (suc p)))) ∙ r (le_of_suc-le-suc l)

-- counting further finds no more of them
pub zeros_more : (f g : ℕ) (s : Stream) (p : ℕ) → zeros f s p < f → f ≤ g → zeros g s p ≡ zeros f s p
unfolding zeros
zeros_more zero g s p h l = absurd (not-suc-le-zero h)
zeros_more (suc f) zero s p h l = absurd (not-suc-le-zero l)
zeros_more (suc f) (suc g) s p h l = go (s p) h (λ k. zeros_more f g s (suc p) k (le_of_suc-le-suc l))
  where
    go : (b : Bool) → unless_one b (zeros f s (suc p)) < suc f → (zeros f s (suc p) < f → zeros g s (suc p) ≡ zeros f s (suc p))
        → unless_one b (zeros g s (suc p)) ≡ unless_one b (zeros f s (suc p))
    go true k r = refl
    go false k r = ap suc (r (le_of_suc-le-suc k))

-- any of them is a zero
pub zeros_all : (f : ℕ) (s : Stream) (p j : ℕ) → j < zeros f s p → s (p + j) ≡ false
unfolding zeros
zeros_all zero s p j h = absurd (not-suc-le-zero h)
zeros_all (suc f) s p j h = go (s p) refl j h (λ i l. zeros_all f s (suc p) i l)
  where
    go : (b : Bool) → s p ≡ b → (j : ℕ) → j < unless_one b (zeros f s (suc p)) → ((i : ℕ) → i < zeros f s (suc p) → s (suc p + i) ≡ false) → s (p + j) ≡ false
    go true e j l r = absurd (not-suc-le-zero l)
    go false e zero l r = rw add-zero e
    go false e (suc j) l r = ap s (add-suc p j ∙ sym (suc-add p j)) ∙ r j (le_of_suc-le-suc l)
