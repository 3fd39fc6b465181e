-- What was written determines the writer and the buffer: `Wrote` leaves no choice. Assumes nothing.
use mathlib.Core.Path.{◌≡◌, refl, sym, ap, ap₂, ◌∙◌, subst}
use mathlib.Core.Bool.{Bool, false}
use mathlib.Core.List.{List, [], ◌++◌, append-nil}
use Prim.Native.Nat.{ℕ, ◌+◌, ◌%◌, ◌^◌, ◌<◌}
use native.Mathlib.Nat.{mod-eq_of_lt, zero-add, zero-mul}
use native.Mathlib.Omega.{arith}
use lib.ListN.{length, drop, get_or}
use lib.Seq.{drop_at}
use Rattle.bits.specs.Bits.{bits_of, num, to_bytes}
use Rattle.bits.specs.Lay.{lay}
use Rattle.bits.specs.ByteRow.{bytes_bits, Bytes}
use Rattle.bits.proofs.Pack.{padded, num_bits, bytes_back}
use Rattle.bitwriter.specs.Put.{Wrote}
use Rattle.bitwriter.specs.declared.BitAcc.{BitAcc}
use Rattle.bitwriter.proofs.Writer.{wrote_count}

-- the first n bytes of a row of bits that begins with the bits of ws
first : (ws : List ℕ) (cs bs : List Bool) → Bytes ws → bytes_bits ws ++ cs ≡ bs → to_bytes (length ws) (padded bs) 0 ≡ ws
first ws cs bs b e = bytes_back ws cs (padded bs) 0 b (λ i. ap (λ (l : List Bool). get_or l (0 + i) false) (sym e))

-- numbers of k bits are told apart by their bits
bits_tell : (k x y : ℕ) → x < 2 ^ k → y < 2 ^ k → bits_of k x ≡ bits_of k y → x ≡ y
bits_tell k x y h g e =
    sym (number k x h) ∙ ap (λ (l : List Bool). num k 0 (padded l) 0) e ∙ number k y g
  where
    number : (k x : ℕ) → x < 2 ^ k → num k 0 (padded (bits_of k x)) 0 ≡ x
    number k x h =
        num_bits k 0 x [] (padded (bits_of k x)) 0 (λ i. ap (λ (l : List Bool). get_or l (0 + i) false) (sym (append-nil (bits_of k x))))
        ∙ ap (λ (y : ℕ). y + x % 2 ^ k) (zero-mul (2 ^ k)) ∙ zero-add (x % 2 ^ k) ∙ mod-eq_of_lt h

same_fields : (a b : BitAcc) → a.acc ≡ b.acc → a.nbits ≡ b.nbits → a.pos ≡ b.pos → a ≡ b
same_fields a b e f g =
    ap (λ (x : ℕ). record { acc = x; nbits = a.nbits; pos = a.pos }) e
    ∙ ap₂ (λ (x y : ℕ). record { acc = b.acc; nbits = x; pos = y }) f g

module _ {o : List ℕ} {p : ℕ} {bs : List Bool} {a b : BitAcc} {o1 o2 : List ℕ} (w : Wrote o p bs a o1) (v : Wrote o p bs b o2) where
  same_nbits : a.nbits ≡ b.nbits
  same_nbits = omega (arith, wrote_count w, wrote_count v, w.place, v.place, w.eights, v.eights, w.few, v.few)

  same_length : length w.ws ≡ length v.ws
  same_length = omega (arith, wrote_count w, wrote_count v, w.place, v.place, w.eights, v.eights, w.few, v.few)

  same_bytes : w.ws ≡ v.ws
  same_bytes =
      sym (first w.ws (bits_of a.nbits a.acc) bs w.small w.bits) ∙ ap (λ (n : ℕ). to_bytes n (padded bs) 0) same_length
      ∙ first v.ws (bits_of b.nbits b.acc) bs v.small v.bits

  rest_of : (x y : List ℕ) (k acc : ℕ) → x ≡ y → bytes_bits x ++ bits_of k acc ≡ bs → drop (length (bytes_bits y)) bs ≡ bits_of k acc
  rest_of x y k acc e f = ap (drop (length (bytes_bits y))) (sym f) ∙ drop_at (bytes_bits x) (bits_of k acc) (length (bytes_bits y)) (ap (λ (l : List ℕ). length (bytes_bits l)) e)

  same_acc : a.acc ≡ b.acc
  same_acc =
      bits_tell b.nbits a.acc b.acc (subst (λ (n : ℕ). a.acc < 2 ^ n) same_nbits w.low) v.low
      (ap (λ (n : ℕ). bits_of n a.acc) (sym same_nbits) ∙ sym (rest_of w.ws v.ws a.nbits a.acc same_bytes w.bits) ∙ rest_of v.ws v.ws b.nbits b.acc refl v.bits)

  pub wrote_same : (a ≡ b) × (o1 ≡ o2)
  wrote_same = (
    same_fields a b same_acc same_nbits (w.place ∙ ap (λ (n : ℕ). p + n) same_length ∙ sym v.place),
    w.bytes ∙ ap (lay o p) same_bytes ∙ sym v.bytes,
  )
