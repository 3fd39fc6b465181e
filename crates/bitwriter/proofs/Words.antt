-- The codes as put takes them: a number and its width, from the bit length that the code found. Assumes nothing.
use mathlib.Core.Path.{◌≡◌, refl, sym, ap₂, ◌∙◌, subst}
use mathlib.Core.Bool.{Bool}
use mathlib.Core.List.{List, ◌++◌}
use Prim.Native.Nat.{ℕ, ◌+◌, ◌-◌, ◌*◌, ◌/◌, ◌^◌, ◌≤◌, ◌<◌}
use native.Mathlib.Omega.{arith}
use native.Mathlib.Nat.{lt_of_lt_of_le}
use lib.Arith.{digits_lt}
use lib.Pow.{pow-add, pow_mono}
use lib.ListN.{length, length-append}
use Rattle.bits.specs.Bits.{bits_of, bit_length, value_code, run_code}
use Rattle.bits.proofs.Leading.{length_le, length_top}
use Rattle.bits.proofs.Pack.{bits_join}
use Rattle.bits.proofs.CodeWord.{value_number, value_fits, value_length_lem, run_number, run_fits, run_length_lem}
use Rattle.bitwriter.specs.Put.{Room, Put}
use Rattle.bitwriter.specs.declared.BitAcc.{BitAcc}

pub room_as : {a : BitAcc} {m n : ℕ} {o : List ℕ} → m ≡ n → Room a m o → Room a n o
room_as {a} {m} {n} {o} e s = subst (λ (k : ℕ). Room a k o) e s

pub put_as : (a : BitAcc) {o : List ℕ} {x y : List Bool} {b : BitAcc} {p : List ℕ} → x ≡ y → Put a o y b p → Put a o x b p
put_as a {o} {x} {y} {b} {p} e v = subst (λ (l : List Bool). Put a o l b p) (sym e) v

-- the value code of c, of bit length b at most k, is the 2b - 1 bits of c
pub record Value (k c b : ℕ) : Type 0 where
  pub some : 1 ≤ b
  pub most : b ≤ k
  pub fits : c < 2 ^ (2 * b - 1)
  pub code : value_code c ≡ bits_of (2 * b - 1) c
  pub long : length (value_code c) ≡ 2 * b - 1

pub value_word : (k c b : ℕ) → k ≤ 32 → 0 < c → c < 2 ^ k → b ≡ bit_length c → Value k c b
value_word k c b hk p h e =
    let h64 : c < 2 ^ 64 = lt_of_lt_of_le h (pow_mono {i = k} {j = 64} (omega arith)) in
    rw e (record {
      some = omega (arith, (length_top c p h64).1);
      most = length_le k c h;
      fits = value_fits c p h64;
      code = value_number c p h64;
      long = value_length_lem c p h64;
    })

-- the same of c below 2 ^ 32 as single facts
pub value_fits_32 : (c : ℕ) → 0 < c → c < 2 ^ 32 → (1 ≤ bit_length c) × (bit_length c ≤ 32) × (c < 2 ^ (2 * bit_length c - 1))
value_fits_32 c p h = let v = value_word 32 c (bit_length c) (omega arith) p h refl in (v.some, v.most, v.fits)

pub value_fits_15 : (c : ℕ) → 0 < c → c < 2 ^ 15 → (1 ≤ bit_length c) × (bit_length c ≤ 15) × (c < 2 ^ (2 * bit_length c - 1))
value_fits_15 c p h = let v = value_word 15 c (bit_length c) (omega arith) p h refl in (v.some, v.most, v.fits)

pub value_put : (a : BitAcc) (o : List ℕ) (c b : ℕ) {r : BitAcc} {w : List ℕ} → 0 < c → c < 2 ^ 32 → b ≡ bit_length c → Put a o (bits_of (2 * b - 1) c) r w → Put a o (value_code c) r w
value_put a o c b p h e v = put_as a (value_word 32 c b (omega arith) p h e).code v

-- the run code of n, of bit length b at most k, is the 2b bits of x
pub record Run (k n b x : ℕ) : Type 0 where
  pub most : b ≤ k
  pub fits : x < 2 ^ (2 * b)
  pub code : run_code n ≡ bits_of (2 * b) x
  pub long : length (run_code n) ≡ 2 * b

pub run_code_lem : (k n b x : ℕ) → k ≤ 32 → n < 2 ^ k → b ≡ bit_length n → x ≡ 2 ^ (2 * b) / 2 + n → Run k n b x
run_code_lem k n b x hk h e ex =
    let h64 : n < 2 ^ 64 = lt_of_lt_of_le h (pow_mono {i = k} {j = 64} (omega arith)) in
    rw (ex, e) (record { most = length_le k n h; fits = run_fits n h64; code = run_number n h64; long = run_length_lem n h64 })

-- the same of n below 2 ^ 31 as single facts, and what is below 2 ^ 17
pub run_fits_31 : (n b x : ℕ) → n < 2 ^ 31 → b ≡ bit_length n → x ≡ 2 ^ (2 * b) / 2 + n → (b ≤ 31) × (x < 2 ^ (2 * b))
run_fits_31 n b x h e f = let r = run_code_lem 31 n b x (omega arith) h e f in (r.most, r.fits)

pub run_room : (a : BitAcc) (o : List ℕ) (n b x : ℕ) → n < 2 ^ 31 → b ≡ bit_length n → x ≡ 2 ^ (2 * b) / 2 + n → Room a (length (run_code n)) o → Room a (2 * b) o
run_room a o n b x h e f s = room_as (run_code_lem 31 n b x (omega arith) h e f).long s

pub run_put : (a : BitAcc) (o : List ℕ) (n b x : ℕ) {r : BitAcc} {w : List ℕ} → n < 2 ^ 31 → b ≡ bit_length n → x ≡ 2 ^ (2 * b) / 2 + n → Put a o (bits_of (2 * b) x) r w → Put a o (run_code n) r w
run_put a o n b x h e f v = put_as a (run_code_lem 31 n b x (omega arith) h e f).code v

pub run_fits_17 : (n b x : ℕ) → n < 2 ^ 17 → b ≡ bit_length n → x ≡ 2 ^ (2 * b) / 2 + n → (b ≤ 17) × (x < 2 ^ (2 * b))
run_fits_17 n b x h e f = let r = run_code_lem 17 n b x (omega arith) h e f in (r.most, r.fits)

-- both together
-- 34 bits at most stand above 29 at most
pub above : (x b k : ℕ) → x < 2 ^ (2 * b) → b ≤ 17 → k ≤ 29 → x < 2 ^ (64 - k)
above x b k h g l = lt_of_lt_of_le h (pow_mono {i = 2 * b} {j = 64 - k} (omega arith))

pub both_fits : (m k x c : ℕ) → x < 2 ^ m → c < 2 ^ k → x * 2 ^ k + c < 2 ^ (m + k)
both_fits m k x c h g = rw (pow-add 2 m k) (digits_lt h g)

pub both_code : (n c m k x : ℕ) → run_code n ≡ bits_of m x → value_code c ≡ bits_of k c → c < 2 ^ k → run_code n ++ value_code c ≡ bits_of (m + k) (x * 2 ^ k + c)
both_code n c m k x e f h = ap₂ ◌++◌ e f ∙ sym (bits_join m k x c h)

pub both_long : (n c m k : ℕ) → length (run_code n) ≡ m → length (value_code c) ≡ k → length (run_code n ++ value_code c) ≡ m + k
both_long n c m k e f = omega (arith, length-append (run_code n) (value_code c))
