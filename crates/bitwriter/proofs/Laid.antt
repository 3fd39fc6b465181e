-- Bits joined in a word, and a word's bytes copied or stored into a part of the buffer: laid where the part begins. Assumes nothing.
use Rattle.std.proofs.Common.{◌≡◌, ℕ, suc, ◌+◌, ◌-◌, ◌*◌, ◌/◌, ◌%◌, ◌^◌, ◌≤◌, ◌<◌, List, [], ◌∷◌, ◌++◌, length, take, drop, slice_set, append-nil, refl, sym, ap, arith}
use mathlib.Core.Path.{◌∙◌}
use mathlib.Core.List.{append_assoc}
use Rattle.std.specs.Int.{to_be_bytes, w64}
use Rattle.std.proofs.lemmas.List.{drop-drop, length-drop, length-take-le, take_more_set}
use native.Mathlib.Nat.{div-one, one-mul, mod-eq_of_lt}
use lib.Pow.{shl_exact, pow-lt, pow_pos}
use lib.Bits.{bit_and, bit_or, or_shifted, and_mask}
use lib.Seq.{take_all}
use Rattle.bits.specs.Lay.{lay}
use Rattle.bits.specs.ByteRow.{word_bytes}

-- a, then the n bits of v
pub joined : (a n v : ℕ) → n < 64 → a < 2 ^ (64 - n) → v < 2 ^ n → bit_or (a * 2 ^ n % 2 ^ 64) v ≡ a * 2 ^ n + v
joined a n v k h l = ap (λ (x : ℕ). bit_or x v) (shl_exact (64 - n) n 64 h (omega arith)) ∙ or_shifted a n v l

-- a one, n places up
pub one_up : (n : ℕ) → n < 64 → (1 * 2 ^ n % 2 ^ 64 ≡ 2 ^ n) × (0 < 2 ^ n)
one_up n h = (ap (λ (x : ℕ). x % 2 ^ 64) (one-mul (2 ^ n)) ∙ mod-eq_of_lt (pow-lt h), pow_pos n)

pub masked : (w n : ℕ) → n < 64 → bit_and w (1 * 2 ^ n % 2 ^ 64 - 1) ≡ w % 2 ^ n
masked w n h = ap (λ (x : ℕ). bit_and w (x - 1)) (one_up n h).0 ∙ and_mask w n

pub copied : (l ys xs : List ℕ) (p k : ℕ) → ys ≡ xs → k ≡ length xs → take p l ++ (ys ++ drop k (drop p l)) ≡ lay l p xs
unfolding lay
copied l ys xs p k e f = rw (e, f, drop-drop (length xs) p l) refl

pub eight : (w : ℕ) → to_be_bytes w64 w ≡ word_bytes 8 w
unfolding word_bytes
eight w = simp div-one

no_bytes_lem : (w : ℕ) → word_bytes 0 w ≡ []
unfolding word_bytes
no_bytes_lem w = refl

-- of the bytes of w, i are stored and k are to come: the next one is stored
pub byte_stored : (l : List ℕ) (i k w : ℕ) → i < length l → 0 < k
    → take (i + 1) (slice_set l i (w / 2 ^ (8 * (k - 1)) % 256)) ++ word_bytes (k - 1) w ≡ take i l ++ word_bytes k w
unfolding word_bytes
byte_stored l i k w h g =
    let e : k ≡ suc (k - 1) = omega arith in
    ap (λ (x : List ℕ). x ++ word_bytes (k - 1) w) (take_more_set l i (w / 2 ^ (8 * (k - 1)) % 256) h) ∙ append_assoc (take i l) (w / 2 ^ (8 * (k - 1)) % 256 ∷ []) (word_bytes (k - 1) w)
    ∙ ap (λ (x : ℕ). take i l ++ word_bytes x w) (sym e)

-- all are stored
pub bytes_stored : (l : List ℕ) (i k w : ℕ) → length l ≤ i → k ≡ 0 → take i l ++ word_bytes k w ≡ l
bytes_stored l i k w h e = rw (e, no_bytes_lem w, append-nil (take i l)) (take_all i l h)

-- a part's length
pub part_length : (l : List ℕ) (p m : ℕ) → p + m ≤ length l → length (take (p + m - p) (drop p l)) ≡ m
part_length l p m h = length-take-le (p + m - p) (drop p l) (omega (arith, length-drop p l)) ∙ omega arith
