-- Codes are read back: each value and run within range, with anything before and after, reads as itself and ends after its last bit.
use mathlib.Core.Path.{◌≡◌, refl, sym, ap, ◌∙◌}
use mathlib.Core.Bool.{Bool, true, false}
use mathlib.Core.List.{List, [], ◌∷◌, ◌++◌}
use Prim.Native.Nat.{ℕ, zero, suc, ◌+◌, ◌*◌, ◌^◌, ◌/◌, ◌%◌, ◌≤◌, ◌<◌}
use native.Mathlib.Nat.{add-zero, add-suc, suc-add, pow-suc, mod-lt, le_refl, le_of_suc-le-suc, not-suc-le-zero, zero-lt-suc, le-div_iff_mul-le, div-lt_iff_lt-mul, mod-eq_of_lt}
use native.Mathlib.Omega.{arith}
use native.Mathlib.Numerals.{one-add}
use lib.ListN.{length, replicate, length-append, length-replicate}
use lib.Arith.{half_le}
use native.Mathlib.Decide.{dec_lt}
use lib.Pow.{pow_pos, mod-pow-add, pow_mono}
use lib.Dec.{eqb}
use borrow.Author.Tests.{le-leb}
use Rattle.bits.specs.Bits.{bit, odd, bits_of, halvings, bit_length, spread, value_code, run_code, Stream, num}
use Rattle.bits.specs.Read.{max_zeros, zeros, number, tail_at, read_tail, run, value, read_symbol}

-- these bits lie at the place p of a stream, whatever lies before and after
abbrev pub At : Stream → ℕ → List Bool → Type 0
At s p [] = Unit {0}
At s p (b ∷ bs) = (s p ≡ b) × At s (suc p) bs

pub length_bits_of : (k n : ℕ) → length (bits_of k n) ≡ k
unfolding bits_of
length_bits_of zero n = refl
length_bits_of (suc k) n = ap suc (length_bits_of k n)

pub at_append : (s : Stream) (p : ℕ) (xs ys : List Bool) → At s p (xs ++ ys) → At s p xs × At s (p + length xs) ys
at_append s p [] ys h = (tt, rw add-zero h)
at_append s p (x ∷ xs) ys h =
    let r : At s (suc p) xs × At s (suc p + length xs) ys = at_append s (suc p) xs ys h.1 in
    ((h.0, r.0), rw (add-suc, ← suc-add p (length xs)) r.1)

pub bit_odd : (n : ℕ) → bit (odd n) ≡ n % 2
bit_odd n = go (n % 2) (mod-lt n (zero-lt-suc 1))
  where
    go : (m : ℕ) → m < 2 → bit (eqb m 1) ≡ m
    go zero h = refl
    go (suc zero) h = refl
    go (suc (suc m)) h = absurd (not-suc-le-zero (le_of_suc-le-suc (le_of_suc-le-suc h)))

-- the bits of a number are read back
num_bits : (k acc n : ℕ) (s : Stream) (p : ℕ) → At s p (bits_of k n) → num k acc s p ≡ acc * 2 ^ k + n % 2 ^ k
unfolding num bits_of
num_bits zero acc n s p h = omega arith
num_bits (suc k) acc n s p h =
    num_bits k (acc * 2 + bit (s p)) n s (suc p) h.1 ∙ step
  where
    e : bit (s p) ≡ n / 2 ^ k % 2
    e = ap bit h.0 ∙ bit_odd (n / 2 ^ k)

    m : n % 2 ^ suc k ≡ (n / 2 ^ k % 2) * 2 ^ k + n % 2 ^ k
    m = ap (λ (x : ℕ). n % 2 ^ x) (sym (one-add k)) ∙ mod-pow-add n 1 k

    step : (acc * 2 + bit (s p)) * 2 ^ k + n % 2 ^ k ≡ acc * 2 ^ suc k + n % 2 ^ suc k
    step = rw (e, m, pow-suc 2 k) (omega arith)

-- a number's digits
pub record Digits (n k : ℕ) : Type 0 where
  pub is : bit_length n ≡ suc k
  pub low : 2 ^ k ≤ n
  pub high : n < 2 ^ suc k

digits_go : (f n : ℕ) → n ≤ f → zero < n → (k : ℕ) × (halvings f n ≡ suc k) × (2 ^ k ≤ n) × (n < 2 ^ suc k)
unfolding halvings
digits_go zero n h l = absurd (omega arith)
digits_go (suc f) zero h l = absurd (not-suc-le-zero l)
digits_go (suc f) (suc zero) h l = (0, one f, omega arith, omega arith)
  where
    one : (g : ℕ) → suc (halvings g (1 / 2)) ≡ 1
    one zero = refl
    one (suc g) = refl
digits_go (suc f) (suc (suc n)) h l =
    let r = digits_go f (suc (suc n) / 2) (half_le h) (omega arith) in
    (suc r.0, ap suc r.1, omega (arith, r.2), omega (arith, r.3))

pub digits : (n : ℕ) → zero < n → (k : ℕ) × Digits n k
unfolding bit_length
digits n h =
    let r = digits_go n n (le_refl n) h in
    (r.0, record { is = r.1; low = r.2; high = r.3 })

-- the first bit of a number's own digits is a one
top : (k n : ℕ) → 2 ^ k ≤ n → n < 2 ^ suc k → odd (n / 2 ^ k) ≡ true
top k n lo hi = ap odd one
  where
    ge : 1 ≤ n / 2 ^ k
    ge = (le-div_iff_mul-le (pow_pos k)).1 (omega arith)

    lt : n / 2 ^ k < 2
    lt = (div-lt_iff_lt-mul (pow_pos k)).1 (omega arith)

    one : n / 2 ^ k ≡ 1
    one = omega (arith, ge, lt)

zeros_run : (z f : ℕ) (s : Stream) (p : ℕ) (bs : List Bool) → z < f → At s p (replicate z false ++ true ∷ bs) → zeros f s p ≡ z
unfolding zeros
zeros_run zero (suc f) s p bs h a = rw a.0
zeros_run zero zero s p bs h a = absurd (not-suc-le-zero h)
zeros_run (suc z) zero s p bs h a = absurd (not-suc-le-zero h)
zeros_run (suc z) (suc f) s p bs h a = rw a.0 (ap suc (zeros_run z f s (suc p) bs (le_of_suc-le-suc h) a.1))

-- ---- a code's rest is read back
tail_back : (s : Stream) (p z n : ℕ) → z < 55 → 2 ^ suc z ≤ n → n < 2 ^ suc (suc z)
    → At s p (replicate z false ++ bits_of (suc (suc z)) n) → read_tail s p ≡ number n (p + z + suc (suc z))
unfolding read_tail tail_at bits_of
tail_back s p z n small lo hi a = rw (zs, le-leb z max_zeros few, ns)
  where
    few : z ≤ max_zeros
    few = le_of_suc-le-suc small

    zs : zeros (suc max_zeros) s p ≡ z
    zs = zeros_run z (suc max_zeros) s p (bits_of (suc z) n) small (rw (top (suc z) n lo hi) at a)

    ns : num (suc (suc z)) 0 s (p + z) ≡ n
    ns = num_bits (suc (suc z)) 0 n s (p + z) (rw length-replicate at (at_append s p (replicate z false) (bits_of (suc (suc z)) n) a).1) ∙ rw (mod-eq_of_lt hi) (omega arith)

-- ---- the codes are read back
-- fewer digits than a power allows
pub digits_lt : (c k m : ℕ) → Digits c k → c < 2 ^ m → k < m
digits_lt c k m d h = elim (dec_lt k m) [ yes l ↦ l | no g ↦ absurd (omega (arith, d.low, pow_mono {i = m} {j = k} (omega arith))) ]

pub length_spread : (b c : ℕ) → length (spread (suc b) c) ≡ b + suc b
unfolding spread
length_spread b c = simp (length-append, length-replicate, length_bits_of)

-- a code of a number of two or more digits, whose first zero has been read
spread_back : (s : Stream) (p c z : ℕ) → Digits c (suc z) → c < 2 ^ 56 → At s p (spread (suc (suc z)) c)
    → (s p ≡ false) × (read_tail s (suc p) ≡ number c (p + length (spread (bit_length c) c)))
unfolding spread
spread_back s p c z d l a = (a.0, back ∙ ap (number c) there)
  where
    back : read_tail s (suc p) ≡ number c (suc p + z + suc (suc z))
    back = tail_back s (suc p) z c (omega (arith, digits_lt c (suc z) 56 d l)) d.low d.high a.1

    there : suc p + z + suc (suc z) ≡ p + length (spread (bit_length c) c)
    there = rw d.is (omega (arith, length_spread (suc z) c))

pub value_tail : (s : Stream) (p c : ℕ) → 2 ≤ c → c < 2 ^ 56 → At s p (value_code c)
    → (s p ≡ false) × (read_tail s (suc p) ≡ number c (p + length (value_code c)))
unfolding value_code
value_tail s p c h l a = go (digits c (omega arith))
  where
    go : (k : ℕ) × Digits c k → (s p ≡ false) × (read_tail s (suc p) ≡ number c (p + length (value_code c)))
    go (zero, d) = absurd (omega (arith, d.high))
    go (suc z, d) = spread_back s p c z d l (rw d.is at a)

pub value_back : (s : Stream) (p c : ℕ) → 2 ≤ c → c < 2 ^ 56 → At s p (value_code c) → read_symbol s p ≡ value c (p + length (value_code c))
unfolding read_symbol
value_back s p c h l a =
    let b = value_tail s p c h l a in
    rw (b.0, b.1)

one : (s : Stream) (p : ℕ) → At s p (run_code 1) → read_symbol s p ≡ run 1 (p + length (run_code 1))
unfolding run_code read_symbol spread bit_length halvings bits_of
one s p a = rw (a.0, a.1.0) (ap (run 1) (omega arith))

pub run_back : (s : Stream) (p n : ℕ) → suc n < 2 ^ 56 → At s p (run_code (suc n)) → read_symbol s p ≡ run (suc n) (p + length (run_code (suc n)))
unfolding run_code read_symbol
run_back s p zero l a = one s p a
run_back s p (suc n) l a = go (digits (suc (suc n)) (omega arith))
  where
    go : (k : ℕ) × Digits (suc (suc n)) k → read_symbol s p ≡ run (suc (suc n)) (p + length (run_code (suc (suc n))))
    go (zero, d) = absurd (omega (arith, d.high))
    go (suc z, d) =
        let b = spread_back s (suc p) (suc (suc n)) z d l (rw d.is at a.1) in
        rw (a.0, b.0, b.1) (ap (run (suc (suc n))) (rw (add-suc, suc-add)))
