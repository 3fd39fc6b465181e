-- What is read out of the tables of short codes.
use mathlib.Core.Path.{◌≡◌, refl, sym, ap, ap₂, ◌∙◌, subst}
use mathlib.Core.Bool.{Bool}
use mathlib.Core.List.{List, ◌++◌}
use Prim.Native.Nat.{ℕ, zero, suc, ◌+◌, ◌-◌, ◌*◌, ◌/◌, ◌%◌, ◌^◌, ◌≤◌, ◌<◌}
use native.Mathlib.Nat.{lt_of_lt_of_le}
use native.Mathlib.Omega.{arith}
use lib.IntN.{ℤ, pos, negsuc}
use lib.ListN.{length, get_or}
use lib.Pow.{pow_mono, pow_pos}
use mir.Syntax.{w16}
use mir.Val.{SFits}
use Rattle.scalar.proofs.Fill.{get_d_tab}
use Rattle.bits.specs.Bits.{bits_of, bit_length, value_code, run_code}
use Rattle.bits.specs.Signed.{code_of}
use Rattle.bits.proofs.Leading.{length_le}
use Rattle.bits.proofs.CodeWord.{value_fits, run_fits}
use Rattle.bitwriter.specs.Pairs.{run_word, run_length, value_length, pair_code}
use Rattle.bitwriter.specs.declared.PairCode.{PairCode}
use Rattle.entropy.specs.short.Tables.{place_of, code_by, code_at, run_entry, value_entry, run_table, value_table}

-- ---- an entry's code and length
-- the entry e is that of the run n
pub record RunAt (e n : ℕ) : Type 0 where
  pub word : e / 16 ≡ run_word n
  pub long : e % 16 ≡ run_length n
  pub small : e < 65536
  pub fits : run_word n < 4096

run_parts : (e w r : ℕ) → e ≡ w * 16 + r → r < 16 → w < 4096 → (e / 16 ≡ w) × (e % 16 ≡ r) × (e < 65536)
run_parts e w r h l s = (omega arith, omega arith, omega arith)

pub run_at : (l : List ℕ) (n : ℕ) → l ≡ run_table → n < 64 → RunAt (get_or l n 0) n
unfolding run_table
run_at l n h k =
    let b : bit_length n ≤ 6 = length_le 6 n k in
    let s : run_word n < 4096 = lt_of_lt_of_le (run_fits n (lt_of_lt_of_le k (pow_mono {i = 6} {j = 64} (omega arith)))) (pow_mono {i = 2 * bit_length n} {j = 12} (omega arith)) in
    let p = run_parts (get_or l n 0) (run_word n) (run_length n) (ap (λ (m : List ℕ). get_or m n 0) h ∙ get_d_tab 64 run_entry n 0 k) (omega arith) s in
    record { word = p.0; long = p.1; small = p.2; fits = s }

-- the entry e is that of the value whose code is c
pub record ValueAt (e c : ℕ) : Type 0 where
  pub word : e / 256 ≡ c
  pub long : e % 256 ≡ value_length c
  pub small : e < 65536
  pub few : value_length c ≤ 15
  pub fits : c < 2 ^ value_length c

code_small : (a b : ℕ) → a ≤ 127 → b ≤ 127 → code_by a b < 256
code_small zero b h k = omega arith
code_small (suc a) b h k = omega arith

code_fits : (c : ℕ) → c < 256 → c < 2 ^ value_length c
code_fits zero h = pow_pos (value_length 0)
code_fits (suc c) h = value_fits (suc c) (omega arith) (lt_of_lt_of_le h (pow_mono {i = 8} {j = 64} (omega arith)))

value_parts : (e c r : ℕ) → e ≡ c * 256 + r → r ≤ 15 → c < 256 → (e / 256 ≡ c) × (e % 256 ≡ r) × (e < 65536)
value_parts e c r h l s = (omega arith, omega arith, omega arith)

pub value_at : (l : List ℕ) (u : ℕ) → l ≡ value_table → u < 255 → ValueAt (get_or l u 0) (code_at u)
unfolding value_table
value_at l u h k =
    let s : code_at u < 256 = code_small (u - 127) (127 - u) (omega arith) (omega arith) in
    let b : bit_length (code_at u) ≤ 8 = length_le 8 (code_at u) s in
    let p = value_parts (get_or l u 0) (code_at u) (value_length (code_at u)) (ap (λ (m : List ℕ). get_or m u 0) h ∙ get_d_tab 255 value_entry u 0 k) (omega arith) s in
    record { word = p.0; long = p.1; small = p.2; few = omega arith; fits = code_fits (code_at u) s }

-- ---- both
-- 12 bits at most stand above 15 at most
pub above : (x k : ℕ) → x < 4096 → k ≤ 15 → x < 2 ^ (64 - k)
above x k h l = lt_of_lt_of_le h (pow_mono {i = 12} {j = 64 - k} (omega arith))

pub both : (e f n c x : ℕ) → RunAt e n → ValueAt f c → x ≡ e / 16 * 2 ^ (f % 256) + f / 256
    → ◌≡◌ {A = PairCode} (record { bits = x; length = e % 16 + f % 256 }) (pair_code n c)
both e f n c x r v h =
    ap₂ (λ (y k : ℕ). record { bits = y; length = k })
    (h ∙ ap (λ (y : ℕ). y * 2 ^ (f % 256) + f / 256) r.word ∙ ap₂ (λ (y k : ℕ). run_word n * 2 ^ k + y) v.word v.long)
    (ap₂ (λ (y k : ℕ). y + k) r.long v.long)

-- ---- the code of a value in the table
code_by_lem : (a b c d : ℕ) → a ≡ c → b ≡ d → code_by a b ≡ code_by c d
code_by_lem a b c d e f = ap₂ code_by e f

pub place_code : (v : ℤ) → SFits w16 v → place_of v < 255 → code_at (place_of v) ≡ code_of v
unfolding code_of
place_code (pos zero) h l = refl
place_code (pos (suc n)) h l =
    let p : place_of (pos (suc n)) ≡ n + 128 = omega (arith, h.sfits) in
    code_by_lem (place_of (pos (suc n)) - 127) (127 - place_of (pos (suc n))) (suc n) 0 (omega arith) (omega arith)
place_code (negsuc n) h l =
    let s : n < 127 = omega (arith, h.sfits) in
    let p : place_of (negsuc n) + n ≡ 126 = omega arith in
    code_by_lem (place_of (negsuc n) - 127) (127 - place_of (negsuc n)) 0 (suc n) (omega arith) (omega arith)
