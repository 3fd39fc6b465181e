-- Bytes and words of a stream. Assumes nothing.
use mathlib.Core.Path.{◌≡◌, refl, sym, ap, ap₂, ◌∙◌}
use mathlib.Core.List.{List, [], ◌∷◌}
use Prim.Native.Nat.{ℕ, zero, suc, ◌+◌, ◌-◌, ◌*◌, ◌/◌, ◌%◌, ◌^◌, ◌≤◌, ◌<◌}
use native.Mathlib.Nat.{mod-eq_of_lt, mul_assoc, lt_of_lt_of_le, le_of_suc-le-suc, not-suc-le-zero}
use native.Mathlib.Omega.{arith}
use lib.Bits.{bit_or, or_shifted}
use lib.ListN.{length, get_or}
use lib.Pow.{pow-add, pow_mono}
use Rattle.bits.specs.Bits.{odd, bit_at, num}
use Rattle.bitreader.specs.words.Word.{Holds, eight}
use Rattle.bitreader.proofs.words.Num.{num_of, num_add, num_lt, num_rest, num_top}

-- ---- bytes

pub get_d_in : (s : List ℕ) (i d e : ℕ) → i < length s → get_or s i d ≡ get_or s i e
get_d_in [] i d e h = absurd (not-suc-le-zero h)
get_d_in (x ∷ s) zero d e h = refl
get_d_in (x ∷ s) (suc i) d e h = get_d_in s i d e (le_of_suc-le-suc h)

-- past the end stands 255
pub byte_most : (s : List ℕ) → ((j : ℕ) → get_or s j 0 < 256) → (j : ℕ) → get_or s j 255 < 256
byte_most [] b j = omega arith
byte_most (x ∷ s) b zero = b 0
byte_most (x ∷ s) b (suc j) = byte_most s (λ i. b (suc i)) j

bit_of : (l : List ℕ) (i j : ℕ) → j < 8 → bit_at l (8 * i + j) ≡ odd (get_or l i 255 / 2 ^ (8 - suc j))
unfolding bit_at
bit_of l i j h =
    let e1 : (8 * i + j) / 8 ≡ i = omega arith in
    let e2 : 7 - (8 * i + j) % 8 ≡ 8 - suc j = omega arith in
    ap₂ (λ (x y : ℕ). odd (get_or l x 255 / 2 ^ y)) e1 e2

-- the eight bits of a byte
pub num_byte : (l : List ℕ) (i : ℕ) → get_or l i 255 < 256 → num 8 0 (bit_at l) (8 * i) ≡ get_or l i 255
num_byte l i h = num_of 8 (get_or l i 255) (bit_at l) (8 * i) (bit_of l i) ∙ mod-eq_of_lt h

-- one byte more
pub num_more : (l : List ℕ) (i k : ℕ) → get_or l (i + k) 255 < 256 → num (8 * (k + 1)) 0 (bit_at l) (8 * i) ≡ num (8 * k) 0 (bit_at l) (8 * i) * 256 + get_or l (i + k) 255
num_more l i k h =
    let e1 : 8 * (k + 1) ≡ 8 * k + 8 = omega arith in
    let e2 : 8 * i + 8 * k ≡ 8 * (i + k) = omega arith in
    ap (λ (x : ℕ). num x 0 (bit_at l) (8 * i)) e1 ∙ num_add (8 * k) 8 (bit_at l) (8 * i)
    ∙ ap (λ (x : ℕ). num (8 * k) 0 (bit_at l) (8 * i) * 256 + x) (ap (num 8 0 (bit_at l)) e2 ∙ num_byte l (i + k) h)

pub num_most : (l : List ℕ) (i k : ℕ) → k < 8 → num (8 * k) 0 (bit_at l) (8 * i) < 2 ^ 56
num_most l i k h = let e : 8 * k ≤ 56 = omega arith in lt_of_lt_of_le (num_lt (8 * k) (bit_at l) (8 * i)) (pow_mono e)

-- ---- eight bytes put together by shifts

-- a byte moved up stays whole
up : (b k : ℕ) → b * 2 ^ k < 2 ^ 64 → b * 2 ^ k % 2 ^ 64 ≡ b * 2 ^ k
up b k h = mod-eq_of_lt h

-- one byte more, after a
module _ (a b k t : ℕ) (hb : b * 2 ^ k < 2 ^ t) where
  both : {x y : ℕ} → x ≡ a * 2 ^ t → y ≡ b * 2 ^ k → bit_or x y ≡ a * 2 ^ t + b * 2 ^ k
  both e f = ap₂ bit_or e f ∙ or_shifted a t (b * 2 ^ k) hb

pub flat : (a b c d e f g h : ℕ) → a < 256 → b < 256 → c < 256 → d < 256 → e < 256 → f < 256 → g < 256 → h < 256
    → bit_or (bit_or (bit_or (bit_or (bit_or (bit_or (bit_or (a * 2 ^ 56 % 2 ^ 64) (b * 2 ^ 48 % 2 ^ 64)) (c * 2 ^ 40 % 2 ^ 64)) (d * 2 ^ 32 % 2 ^ 64)) (e * 2 ^ 24 % 2 ^ 64)) (f * 2 ^ 16 % 2 ^ 64)) (g * 2 ^ 8 % 2 ^ 64)) h
    ≡ eight a b c d e f g h
unfolding eight
flat a b c d e f g h ha hb hc hd he hf hg hh =
    let x1 = both a b 48 56 (omega arith) (up a 56 (omega arith)) (up b 48 (omega arith)) in
    let x2 = both (a * 256 + b) c 40 48 (omega arith) (x1 ∙ omega arith) (up c 40 (omega arith)) in
    let x3 = both ((a * 256 + b) * 256 + c) d 32 40 (omega arith) (x2 ∙ omega arith) (up d 32 (omega arith)) in
    let x4 = both (((a * 256 + b) * 256 + c) * 256 + d) e 24 32 (omega arith) (x3 ∙ omega arith) (up e 24 (omega arith)) in
    let x5 = both ((((a * 256 + b) * 256 + c) * 256 + d) * 256 + e) f 16 24 (omega arith) (x4 ∙ omega arith) (up f 16 (omega arith)) in
    let x6 = both (((((a * 256 + b) * 256 + c) * 256 + d) * 256 + e) * 256 + f) g 8 16 (omega arith) (x5 ∙ omega arith) (up g 8 (omega arith)) in
    let h0 : h ≡ h * 2 ^ 0 = omega arith in
    let x7 = both ((((((a * 256 + b) * 256 + c) * 256 + d) * 256 + e) * 256 + f) * 256 + g) h 0 8 (omega arith) (x6 ∙ omega arith) h0 in
    x7 ∙ omega arith

module _ (l : List ℕ) (i : ℕ) (b : (j : ℕ) → get_or l j 0 < 256) where
  -- one byte, and n bits after it
  next : (k n : ℕ) → i + k < length l → num (8 + n) 0 (bit_at l) (8 * (i + k)) ≡ get_or l (i + k) 0 * 2 ^ n + num n 0 (bit_at l) (8 * (i + (k + 1)))
  next k n h =
      let e : 8 * (i + k) + 8 ≡ 8 * (i + (k + 1)) = omega arith in
      num_add 8 n (bit_at l) (8 * (i + k))
      ∙ ap₂ (λ (x y : ℕ). x * 2 ^ n + num n 0 (bit_at l) y) (num_byte l (i + k) (byte_most l b (i + k)) ∙ sym (get_d_in l (i + k) 0 255 h)) e

  first : i < length l → num 64 0 (bit_at l) (8 * i) ≡ get_or l i 0 * 2 ^ 56 + num 56 0 (bit_at l) (8 * (i + 1))
  first h =
      let e : 8 * i + 8 ≡ 8 * (i + 1) = omega arith in
      num_add 8 56 (bit_at l) (8 * i)
      ∙ ap₂ (λ (x y : ℕ). x * 2 ^ 56 + num 56 0 (bit_at l) y) (num_byte l i (byte_most l b i) ∙ sym (get_d_in l i 0 255 h)) e

  last : (x : ℕ) → x * 2 ^ 0 + 0 ≡ x
  last x = omega arith

  pub num_eight : i + 8 ≤ length l
      → eight (get_or l i 0) (get_or l (i + 1) 0) (get_or l (i + 2) 0) (get_or l (i + 3) 0) (get_or l (i + 4) 0) (get_or l (i + 5) 0) (get_or l (i + 6) 0) (get_or l (i + 7) 0) ≡ num 64 0 (bit_at l) (8 * i)
  unfolding num eight
  num_eight h =
      sym (first (omega arith)
      ∙ ap (λ (x : ℕ). get_or l i 0 * 2 ^ 56 + x) (next 1 48 (omega arith)
      ∙ ap (λ (x : ℕ). get_or l (i + 1) 0 * 2 ^ 48 + x) (next 2 40 (omega arith)
      ∙ ap (λ (x : ℕ). get_or l (i + 2) 0 * 2 ^ 40 + x) (next 3 32 (omega arith)
      ∙ ap (λ (x : ℕ). get_or l (i + 3) 0 * 2 ^ 32 + x) (next 4 24 (omega arith)
      ∙ ap (λ (x : ℕ). get_or l (i + 4) 0 * 2 ^ 24 + x) (next 5 16 (omega arith)
      ∙ ap (λ (x : ℕ). get_or l (i + 5) 0 * 2 ^ 16 + x) (next 6 8 (omega arith)
      ∙ ap (λ (x : ℕ). get_or l (i + 6) 0 * 2 ^ 8 + x) (next 7 0 (omega arith) ∙ last (get_or l (i + 7) 0)))))))))

-- ---- the bits at any place

pub holds_peek : (s : List ℕ) (p w : ℕ) → w ≡ num 64 0 (bit_at s) (8 * (p / 8)) → Holds s p (64 - p % 8) ((w * 2 ^ (p % 8)) % 2 ^ 64)
holds_peek s p w e =
    let e1 : 64 ≡ p % 8 + (64 - p % 8) = omega arith in
    let e2 : 64 ≡ 64 - p % 8 + p % 8 = omega arith in
    let e3 : 8 * (p / 8) + p % 8 ≡ p = omega arith in
    let e4 : p % 8 ≡ 64 - (64 - p % 8) = omega arith in
    ap (λ (x : ℕ). (x * 2 ^ (p % 8)) % 2 ^ 64) e
    ∙ ap₂ (λ (x y : ℕ). (num x 0 (bit_at s) (8 * (p / 8)) * 2 ^ (p % 8)) % 2 ^ y) e1 e2
    ∙ num_rest (p % 8) (64 - p % 8) (p % 8) (bit_at s) (8 * (p / 8))
    ∙ ap₂ (λ (x y : ℕ). num (64 - p % 8) 0 (bit_at s) x * 2 ^ y) e3 e4

-- the n highest bits of a word
pub holds_top : (s : List ℕ) (p m w n : ℕ) → Holds s p m w → m ≤ 64 → n ≤ m → w / 2 ^ (64 - n) ≡ num n 0 (bit_at s) p
holds_top s p m w n e h l =
    let e1 : m ≡ n + (m - n) = omega arith in
    let e2 : 64 - n ≡ m - n + (64 - m) = omega arith in
    ap (λ (x : ℕ). x / 2 ^ (64 - n)) e
    ∙ ap₂ (λ (x y : ℕ). (num x 0 (bit_at s) p * 2 ^ (64 - m)) / 2 ^ y) e1 e2
    ∙ num_top n (m - n) (64 - m) (bit_at s) p

-- a word moved up by n bits
pub holds_up : (s : List ℕ) (p m w n : ℕ) → Holds s p m w → m ≤ 64 → n ≤ m → Holds s (p + n) (m - n) ((w * 2 ^ n) % 2 ^ 64)
holds_up s p m w n e h l =
    let e1 : m ≡ n + (m - n) = omega arith in
    let e2 : 64 ≡ m - n + (64 - m + n) = omega arith in
    let e3 : 64 - m + n ≡ 64 - (m - n) = omega arith in
    ap (λ (x : ℕ). (x * 2 ^ n) % 2 ^ 64) e
    ∙ ap (λ (x : ℕ). x % 2 ^ 64) (mul_assoc (num m 0 (bit_at s) p) (2 ^ (64 - m)) (2 ^ n) ∙ ap (λ (x : ℕ). num m 0 (bit_at s) p * x) (sym (pow-add 2 (64 - m) n)))
    ∙ ap₂ (λ (x y : ℕ). (num x 0 (bit_at s) p * 2 ^ (64 - m + n)) % 2 ^ y) e1 e2
    ∙ num_rest n (m - n) (64 - m + n) (bit_at s) p
    ∙ ap (λ (x : ℕ). num (m - n) 0 (bit_at s) (p + n) * 2 ^ x) e3
