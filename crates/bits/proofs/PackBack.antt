-- Packed bits are found again, whatever stands before and after.
use mathlib.Core.Path.{◌≡◌, refl, sym, ap, ap₂, ◌∙◌}
use mathlib.Core.Bool.{Bool, true, false}
use mathlib.Core.List.{List, [], ◌∷◌, ◌++◌}
use Prim.Native.Nat.{ℕ, zero, suc, ◌+◌, ◌*◌, ◌^◌, ◌/◌, ◌%◌, ◌-◌, ◌<◌, suc-le-suc}
use native.Mathlib.Nat.{add-zero, zero-add, add-suc, suc-add, le_of_suc-le-suc, not-suc-le-zero}
use native.Mathlib.Numerals.{add-one}
use native.Mathlib.Omega.{arith}
use lib.ListN.{length, get_or, get_or-append}
use lib.Seq.{get_or-append-add}
use lib.Pow.{shr-shr}
use borrow.Author.Tests.{eq-eqb, ne_eqb}
use Rattle.bits.specs.Bits.{bit, odd, Stream, num, bit_at, to_bytes, bytes_for, pad_to_byte}
use Rattle.bits.proofs.Codes.{At}

-- bits, then zeros
abbrev padded : List Bool → Stream
padded bs i = get_or bs i false

odd_bit : (a : ℕ) (b : Bool) → odd (a * 2 + bit b) ≡ b
odd_bit a true = eq-eqb ((a * 2 + 1) % 2) 1 (omega arith)
odd_bit a false = ne_eqb ((a * 2 + 0) % 2) 1 (omega arith)

pub num_high : (k acc : ℕ) (s : Stream) (p : ℕ) → num k acc s p / 2 ^ k ≡ acc
unfolding num
num_high zero acc s p = omega arith
num_high (suc k) acc s p =
    ap (λ (x : ℕ). num k (acc * 2 + bit (s p)) s (suc p) / 2 ^ x) (sym (add-one k))
    ∙ sym (shr-shr (num k (acc * 2 + bit (s p)) s (suc p)) k 1)
    ∙ ap (λ (x : ℕ). x / 2) (num_high k (acc * 2 + bit (s p)) s (suc p)) ∙ half (s p)
  where
    half : (b : Bool) → (acc * 2 + bit b) / 2 ≡ acc
    half true = omega arith
    half false = omega arith

num_bit : (j m acc : ℕ) (s : Stream) (p : ℕ) → odd (num (j + suc m) acc s p / 2 ^ m) ≡ s (p + j)
unfolding num
num_bit zero m acc s p = rw (zero-add (suc m), add-zero p, num_high m (acc * 2 + bit (s p)) s (suc p)) (odd_bit acc (s p))
num_bit (suc j) m acc s p = rw (suc-add j (suc m), add-suc p j) (num_bit j m (acc * 2 + bit (s p)) s (suc p) ∙ ap s (suc-add p j))

length_to_bytes : (n : ℕ) (s : Stream) (p : ℕ) → length (to_bytes n s p) ≡ n
unfolding to_bytes
length_to_bytes zero s p = refl
length_to_bytes (suc n) s p = ap suc (length_to_bytes n s (p + 8))

get_d_to_bytes : (n k : ℕ) (s : Stream) (p : ℕ) → k < n → get_or (to_bytes n s p) k 255 ≡ num 8 0 s (p + 8 * k)
unfolding to_bytes
get_d_to_bytes zero k s p h = absurd (not-suc-le-zero h)
get_d_to_bytes (suc n) zero s p h = ap (num 8 0 s) (omega arith)
get_d_to_bytes (suc n) (suc k) s p h = get_d_to_bytes n k s (p + 8) (le_of_suc-le-suc h) ∙ ap (num 8 0 s) (omega arith)

pub length_pad_to_byte : (bs : List Bool) → length (pad_to_byte bs) ≡ bytes_for (length bs)
unfolding pad_to_byte
length_pad_to_byte bs = length_to_bytes (bytes_for (length bs)) (padded bs) 0

at_points : (s : Stream) (p : ℕ) (bs : List Bool) → ((i : ℕ) → i < length bs → s (p + i) ≡ get_or bs i false) → At s p bs
at_points s p [] f = tt
at_points s p (b ∷ bs) f = (ap s (sym (add-zero p)) ∙ f 0 (omega arith), at_points s (suc p) bs (λ i h. ap s (omega arith) ∙ f (suc i) (suc-le-suc h)))

pub pad_to_byte_at : (pre post : List ℕ) (bs : List Bool) → At (bit_at (pre ++ (pad_to_byte bs ++ post))) (8 * length pre) bs
unfolding bit_at pad_to_byte
pad_to_byte_at pre post bs = at_points (bit_at (pre ++ (pad_to_byte bs ++ post))) (8 * length pre) bs point
  where
    byte : (k : ℕ) → k < bytes_for (length bs) → get_or (pre ++ (pad_to_byte bs ++ post)) (length pre + k) 255 ≡ num 8 0 (padded bs) (8 * k)
    byte k h =
        get_or-append-add pre (pad_to_byte bs ++ post) k 255 ∙ get_or-append (pad_to_byte bs) post 255 k (rw length_pad_to_byte h)
        ∙ get_d_to_bytes (bytes_for (length bs)) k (padded bs) 0 h ∙ ap (num 8 0 (padded bs)) (zero-add (8 * k))

    point : (i : ℕ) → i < length bs → bit_at (pre ++ (pad_to_byte bs ++ post)) (8 * length pre + i) ≡ get_or bs i false
    point i h =
        ap₂ (λ (x y : ℕ). odd (get_or (pre ++ (pad_to_byte bs ++ post)) x 255 / 2 ^ (7 - y))) e1 e2
        ∙ ap (λ (x : ℕ). odd (x / 2 ^ (7 - i % 8))) (byte (i / 8) (omega arith))
        ∙ ap (λ (x : ℕ). odd (num x 0 (padded bs) (8 * (i / 8)) / 2 ^ (7 - i % 8))) e3
        ∙ num_bit (i % 8) (7 - i % 8) 0 (padded bs) (8 * (i / 8)) ∙ ap (padded bs) e4
      where
        e1 : (8 * length pre + i) / 8 ≡ length pre + i / 8
        e1 = omega arith

        e2 : (8 * length pre + i) % 8 ≡ i % 8
        e2 = omega arith

        e3 : 8 ≡ i % 8 + suc (7 - i % 8)
        e3 = omega arith

        e4 : 8 * (i / 8) + i % 8 ≡ i
        e4 = omega arith
