-- Bits in lists, bytes in lists, and bits padded to bytes. Assumes nothing.
use mathlib.Core.Path.{◌≡◌, refl, sym, ap, ap₂, ◌∙◌}
use mathlib.Core.Bool.{Bool, false}
use mathlib.Core.List.{List, [], ◌∷◌, ◌++◌, append_assoc, append-nil}
use Prim.Native.Nat.{ℕ, zero, suc, ◌+◌, ◌-◌, ◌*◌, ◌/◌, ◌%◌, ◌^◌, ◌<◌}
use native.Mathlib.Nat.{zero-add, add-zero, add-suc, suc-add, add_assoc, add_comm, zero-mul, add-mul, mul_assoc, mul_comm, pow-suc, mod-lt, mod-one, mod-eq_of_lt, zero-div, mul-add-div_right, mul-add-mod_self_right}
use native.Mathlib.Numerals.{one-add}
use native.Mathlib.Omega.{arith}
use lib.Dec.{eqb, lit<}
use lib.Pow.{pow_pos, pow-add, shr-shr, high, split, mod-pow-add}
use lib.ListN.{length, get_or, replicate, length-append, length-replicate}
use lib.Seq.{get_or-append-add}
use Rattle.bits.specs.Bits.{bit, odd, bits_of, Stream, num, bytes_for, to_bytes, pad_to_byte}
use Rattle.bits.specs.ByteRow.{bytes_bits, Bytes, word_bytes}
use Rattle.bits.proofs.Codes.{length_bits_of, bit_odd}

-- ---- the bits of a number

-- the k low bits of a number do not see what stands above them
pub bits_low : (k i a v : ℕ) → bits_of k (a * 2 ^ (i + k) + v) ≡ bits_of k v
unfolding bits_of
bits_low zero i a v = refl
bits_low (suc k) i a v =
    let e : a * 2 ^ (i + suc k) ≡ ((a * 2 ^ i) * 2) * 2 ^ k = ap (λ (x : ℕ). a * x) (pow-add 2 i (suc k) ∙ ap (λ (x : ℕ). 2 ^ i * x) (pow-suc 2 k ∙ mul_comm (2 ^ k) 2)) ∙ sym (ap (λ (x : ℕ). x * 2 ^ k) (mul_assoc a (2 ^ i) 2) ∙ mul_assoc a (2 ^ i * 2) (2 ^ k) ∙ ap (λ (x : ℕ). a * x) (mul_assoc (2 ^ i) 2 (2 ^ k))) in
    let h : (a * 2 ^ (i + suc k) + v) / 2 ^ k % 2 ≡ v / 2 ^ k % 2 = ap (λ (x : ℕ). (x + v) / 2 ^ k % 2) e ∙ ap (λ (x : ℕ). x % 2) (mul-add-div_right (pow_pos k) (a * 2 ^ i * 2) v) ∙ mul-add-mod_self_right (a * 2 ^ i) 2 (v / 2 ^ k) in
    ap₂ (λ (x : ℕ) (l : List Bool). eqb x 1 ∷ l) h (ap (λ (x : ℕ). bits_of k (a * 2 ^ x + v)) (add-suc i k ∙ sym (suc-add i k)) ∙ bits_low k (suc i) a v)

pub bits_mod : (k v : ℕ) → bits_of k (v % 2 ^ k) ≡ bits_of k v
bits_mod k v =
    sym (ap (bits_of k) (sym (split v k)) ∙ ap (λ (x : ℕ). bits_of k (v / 2 ^ k * 2 ^ x + v % 2 ^ k)) (sym (zero-add k)) ∙ bits_low k zero (v / 2 ^ k) (v % 2 ^ k))

-- a number's bits are its high bits, then its low bits
pub bits_split : (m n v : ℕ) → bits_of (m + n) v ≡ bits_of m (v / 2 ^ n) ++ bits_of n v
unfolding bits_of
bits_split zero n v = ap (λ (x : ℕ). bits_of x v) (zero-add n)
bits_split (suc m) n v =
    let e : v / 2 ^ (m + n) ≡ v / 2 ^ n / 2 ^ m = ap (λ (x : ℕ). v / 2 ^ x) (add_comm m n) ∙ sym (shr-shr v n m) in
    ap (λ (x : ℕ). bits_of x v) (suc-add m n) ∙ ap₂ (λ (x : ℕ) (l : List Bool). odd x ∷ l) e (bits_split m n v)

-- the bits of a number that is put together are those of its parts
pub bits_join : (m n a v : ℕ) → v < 2 ^ n → bits_of (m + n) (a * 2 ^ n + v) ≡ bits_of m a ++ bits_of n v
bits_join m n a v h =
    bits_split m n (a * 2 ^ n + v)
    ∙ ap₂ (λ (x : ℕ) (l : List Bool). bits_of m x ++ l) (high a n h) (ap (λ (x : ℕ). bits_of n (a * 2 ^ x + v)) (sym (zero-add n)) ∙ bits_low n zero a v)

pub bits_zero : (m : ℕ) → bits_of m 0 ≡ replicate m false
unfolding bits_of
bits_zero zero = refl
bits_zero (suc m) = ap₂ (λ (x : ℕ) (l : List Bool). odd x ∷ l) (zero-div (2 ^ m)) (bits_zero m)

-- a short number at a greater width
pub bits_wide : (m n v : ℕ) → v < 2 ^ n → bits_of (m + n) v ≡ replicate m false ++ bits_of n v
bits_wide m n v h =
    ap (bits_of (m + n)) (sym (ap (λ (x : ℕ). x + v) (zero-mul (2 ^ n)) ∙ zero-add v))
    ∙ bits_join m n 0 v h ∙ ap (λ (l : List Bool). l ++ bits_of n v) (bits_zero m)

-- ---- rows of bytes

pub bytes_append : (xs ys : List ℕ) → Bytes xs → Bytes ys → Bytes (xs ++ ys)
bytes_append [] ys h k = k
bytes_append (x ∷ xs) ys h k = (h.0, bytes_append xs ys h.1 k)

pub bits_append : (xs ys : List ℕ) → bytes_bits (xs ++ ys) ≡ bytes_bits xs ++ bytes_bits ys
unfolding bytes_bits
bits_append [] ys = refl
bits_append (x ∷ xs) ys = ap (λ (l : List Bool). bits_of 8 x ++ l) (bits_append xs ys) ∙ sym (append_assoc (bits_of 8 x) (bytes_bits xs) (bytes_bits ys))

pub length_bytes : (ws : List ℕ) → length (bytes_bits ws) ≡ 8 * length ws
unfolding bytes_bits
length_bytes [] = refl
length_bytes (w ∷ ws) = omega (arith, length-append (bits_of 8 w) (bytes_bits ws), length_bits_of 8 w, length_bytes ws)

pub word_length : (m w : ℕ) → length (word_bytes m w) ≡ m
unfolding word_bytes
word_length zero w = refl
word_length (suc m) w = ap suc (word_length m w)

pub word_bytes_lem : (m w : ℕ) → Bytes (word_bytes m w)
unfolding word_bytes
word_bytes_lem zero w = tt
word_bytes_lem (suc m) w = (mod-lt (w / 2 ^ (8 * m)) (lit< tt), word_bytes_lem m w)

no_bits : (w : ℕ) → [] ≡ bits_of (8 * 0) w
unfolding bits_of
no_bits w = refl

pub word_bits : (m w : ℕ) → bytes_bits (word_bytes m w) ≡ bits_of (8 * m) w
unfolding word_bytes bytes_bits
word_bits zero w = no_bits w
word_bits (suc m) w =
    let e : 8 + 8 * m ≡ 8 * suc m = omega arith in
    ap₂ (λ (x y : List Bool). x ++ y) (bits_mod 8 (w / 2 ^ (8 * m))) (word_bits m w) ∙ sym (bits_split 8 (8 * m) w) ∙ ap (λ (x : ℕ). bits_of x w) e

-- ---- a stream and a list that agree from a place on

abbrev pub padded : List Bool → Stream
padded bs i = get_or bs i false

abbrev pub Same : Stream → ℕ → Stream → ℕ → Type 0
Same s p t q = (i : ℕ) → s (p + i) ≡ t (q + i)

pub same_here : (s t : Stream) (p q : ℕ) → Same s p t q → s p ≡ t q
same_here s t p q h = ap s (sym (add-zero p)) ∙ h 0 ∙ ap t (add-zero q)

pub same_on : (s t : Stream) (p q d : ℕ) → Same s p t q → Same s (p + d) t (q + d)
same_on s t p q d h i = ap s (add_assoc p d i) ∙ h (d + i) ∙ ap t (sym (add_assoc q d i))

same_suc : (s t : Stream) (p q : ℕ) → Same s p t q → Same s (suc p) t (suc q)
same_suc s t p q h i = ap s (suc-add p i ∙ sym (add-suc p i)) ∙ h (suc i) ∙ ap t (add-suc q i ∙ sym (suc-add q i))

pub num_same : (k acc : ℕ) (s t : Stream) (p q : ℕ) → Same s p t q → num k acc s p ≡ num k acc t q
unfolding num
num_same zero acc s t p q h = refl
num_same (suc k) acc s t p q h =
    ap (λ (b : Bool). num k (acc * 2 + bit b) s (suc p)) (same_here s t p q h) ∙ num_same k (acc * 2 + bit (t q)) s t (suc p) (suc q) (same_suc s t p q h)

pub to_bytes_same : (n : ℕ) (s t : Stream) (p q : ℕ) → Same s p t q → to_bytes n s p ≡ to_bytes n t q
unfolding to_bytes
to_bytes_same zero s t p q h = refl
to_bytes_same (suc n) s t p q h = ap₂ (λ (x : ℕ) (l : List ℕ). x ∷ l) (num_same 8 0 s t p q h) (to_bytes_same n s t (p + 8) (q + 8) (same_on s t p q 8 h))

pub to_bytes_add : (m n : ℕ) (s : Stream) (p : ℕ) → to_bytes (m + n) s p ≡ to_bytes m s p ++ to_bytes n s (p + 8 * m)
unfolding to_bytes
to_bytes_add zero n s p = let e : p ≡ p + 8 * 0 = omega arith in ap (λ (x : ℕ). to_bytes x s p) (zero-add n) ∙ ap (to_bytes n s) e
to_bytes_add (suc m) n s p =
    let e : p + 8 + 8 * m ≡ p + 8 * suc m = omega arith in
    ap (λ (x : ℕ). to_bytes x s p) (suc-add m n) ∙ ap (λ (l : List ℕ). num 8 0 s p ∷ l) (to_bytes_add m n s (p + 8) ∙ ap (λ (x : ℕ). to_bytes m s (p + 8) ++ to_bytes n s x) e)

-- the number of bits that a stream has at p
pub num_bits : (k acc v : ℕ) (r : List Bool) (s : Stream) (p : ℕ) → Same s p (padded (bits_of k v ++ r)) 0 → num k acc s p ≡ acc * 2 ^ k + v % 2 ^ k
unfolding num bits_of
num_bits zero acc v r s p h = omega (arith, mod-one v)
num_bits (suc k) acc v r s p h =
    let f : num k (acc * 2 + bit (s p)) s (suc p) ≡ (acc * 2 + bit (s p)) * 2 ^ k + v % 2 ^ k = num_bits k (acc * 2 + bit (s p)) v r s (suc p) (rest s p h) in
    let e : bit (s p) ≡ v / 2 ^ k % 2 = ap bit (same_here s (padded (bits_of (suc k) v ++ r)) p 0 h) ∙ bit_odd (v / 2 ^ k) in
    let g : v % 2 ^ suc k ≡ v / 2 ^ k % 2 * 2 ^ k + v % 2 ^ k = ap (λ (x : ℕ). v % 2 ^ x) (sym (one-add k)) ∙ mod-pow-add v 1 k in
    f ∙ ap (λ (x : ℕ). (acc * 2 + x) * 2 ^ k + v % 2 ^ k) e
    ∙ ap (λ (x : ℕ). x + v % 2 ^ k) (add-mul (acc * 2) (v / 2 ^ k % 2) (2 ^ k))
    ∙ add_assoc (acc * 2 * 2 ^ k) (v / 2 ^ k % 2 * 2 ^ k) (v % 2 ^ k)
    ∙ ap₂ (λ (x y : ℕ). x + y) (mul_assoc acc 2 (2 ^ k) ∙ ap (λ (x : ℕ). acc * x) (mul_comm 2 (2 ^ k) ∙ sym (pow-suc 2 k))) (sym g)
  where
    rest : (s : Stream) (p : ℕ) → Same s p (padded (bits_of (suc k) v ++ r)) 0 → Same s (suc p) (padded (bits_of k v ++ r)) 0
    rest s p h i =
        let e : zero + suc i ≡ suc (zero + i) = add-suc zero i in
        ap s (suc-add p i ∙ sym (add-suc p i)) ∙ h (suc i) ∙ ap (padded (bits_of (suc k) v ++ r)) e

-- a stream that has the bits of bytes gives the bytes
pub bytes_back : (ws : List ℕ) (r : List Bool) (s : Stream) (p : ℕ) → Bytes ws → Same s p (padded (bytes_bits ws ++ r)) 0 → to_bytes (length ws) s p ≡ ws
unfolding to_bytes bytes_bits
bytes_back [] r s p b h = refl
bytes_back (w ∷ ws) r s p b h =
    let a : bits_of 8 w ++ bytes_bits ws ++ r ≡ bits_of 8 w ++ (bytes_bits ws ++ r) = append_assoc (bits_of 8 w) (bytes_bits ws) r in
    let h' : Same s p (padded (bits_of 8 w ++ (bytes_bits ws ++ r))) 0 = λ i. h i ∙ ap (λ (l : List Bool). get_or l (0 + i) false) a in
    let n : num 8 0 s p ≡ w = num_bits 8 0 w (bytes_bits ws ++ r) s p h' ∙ omega (arith, mod-eq_of_lt b.0) in
    ap₂ (λ (x : ℕ) (l : List ℕ). x ∷ l) n (bytes_back ws r s (p + 8) b.1 (behind s p h'))
  where
    behind : (s : Stream) (p : ℕ) → Same s p (padded (bits_of 8 w ++ (bytes_bits ws ++ r))) 0 → Same s (p + 8) (padded (bytes_bits ws ++ r)) 0
    behind s p h i =
        let e : 0 + (8 + i) ≡ length (bits_of 8 w) + (0 + i) = omega (arith, length_bits_of 8 w) in
        ap s (add_assoc p 8 i) ∙ h (8 + i) ∙ ap (padded (bits_of 8 w ++ (bytes_bits ws ++ r))) e ∙ get_or-append-add (bits_of 8 w) (bytes_bits ws ++ r) (0 + i) false

-- ---- pad_to_byte

-- whole bytes stand as they are; what follows is padded
pub pad_append : (ws : List ℕ) (cs : List Bool) → Bytes ws → pad_to_byte (bytes_bits ws ++ cs) ≡ ws ++ pad_to_byte cs
unfolding pad_to_byte
pad_append ws cs b =
    let n : bytes_for (length (bytes_bits ws ++ cs)) ≡ length ws + bytes_for (length cs) = omega (arith, length-append (bytes_bits ws) cs, length_bytes ws) in
    ap (λ (x : ℕ). to_bytes x (padded (bytes_bits ws ++ cs)) 0) n
    ∙ to_bytes_add (length ws) (bytes_for (length cs)) (padded (bytes_bits ws ++ cs)) 0
    ∙ ap₂ (λ (x y : List ℕ). x ++ y) (bytes_back ws cs (padded (bytes_bits ws ++ cs)) 0 b (λ i. refl)) (to_bytes_same (bytes_for (length cs)) (padded (bytes_bits ws ++ cs)) (padded cs) (0 + 8 * length ws) 0 behind)
  where
    behind : Same (padded (bytes_bits ws ++ cs)) (0 + 8 * length ws) (padded cs) 0
    behind i =
        let e : 0 + 8 * length ws + i ≡ length (bytes_bits ws) + (0 + i) = omega (arith, length_bytes ws) in
        ap (padded (bytes_bits ws ++ cs)) e ∙ get_or-append-add (bytes_bits ws) cs (0 + i) false

padded_zeros : (bs : List Bool) (n i : ℕ) → get_or bs i false ≡ get_or (bs ++ replicate n false) i false
padded_zeros [] zero i = refl
padded_zeros [] (suc n) zero = refl
padded_zeros [] (suc n) (suc i) = padded_zeros [] n i
padded_zeros (b ∷ bs) n zero = refl
padded_zeros (b ∷ bs) n (suc i) = padded_zeros bs n i

-- fewer than eight zero bits make whole bytes of bs: these are the padded bytes
pub pad_zeros : (bs : List Bool) (n : ℕ) (ws : List ℕ) → Bytes ws → n < 8 → bytes_bits ws ≡ bs ++ replicate n false → pad_to_byte bs ≡ ws
unfolding pad_to_byte
pad_zeros bs n ws b h e =
    let m : bytes_for (length bs) ≡ length ws = omega (arith, length_bytes ws, ap length e, length-append bs (replicate n false), length-replicate n false) in
    ap (λ (x : ℕ). to_bytes x (padded bs) 0) m
    ∙ bytes_back ws [] (padded bs) 0 b (λ i. padded_zeros bs n (0 + i) ∙ ap (λ (l : List Bool). get_or l (0 + i) false) (sym e ∙ sym (append-nil (bytes_bits ws))))

-- a number's bits, padded, are the bytes of the number moved up
pub pad_word : (k v : ℕ) → pad_to_byte (bits_of k v) ≡ word_bytes (bytes_for k) (v * 2 ^ (8 * bytes_for k - k) + 0)
pad_word k v =
    let m : ℕ = bytes_for k in
    let e : 8 * bytes_for k ≡ k + (8 * bytes_for k - k) = omega arith in
    pad_zeros (bits_of k v) (8 * bytes_for k - k) (word_bytes (bytes_for k) (v * 2 ^ (8 * bytes_for k - k) + 0)) (word_bytes_lem (bytes_for k) (v * 2 ^ (8 * bytes_for k - k) + 0)) (omega arith)
    (word_bits (bytes_for k) (v * 2 ^ (8 * bytes_for k - k) + 0) ∙ ap (λ (x : ℕ). bits_of x (v * 2 ^ (8 * bytes_for k - k) + 0)) e
    ∙ bits_join k (8 * bytes_for k - k) v 0 (pow_pos (8 * bytes_for k - k)) ∙ ap (λ (l : List Bool). bits_of k v ++ l) (bits_zero (8 * bytes_for k - k)))
