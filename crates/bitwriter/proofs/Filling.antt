-- What put does to a writer: the bits fit the accumulator, or fill it and eight bytes go out. Assumes nothing.
use mathlib.Core.Path.{◌≡◌, sym, ap, ap₂, ◌∙◌, refl, subst}
use mathlib.Core.Bool.{Bool}
use mathlib.Core.List.{List, [], ◌++◌, append_assoc}
use Prim.Native.Nat.{ℕ, ◌+◌, ◌-◌, ◌*◌, ◌/◌, ◌%◌, ◌^◌, ◌≤◌, ◌<◌}
use native.Mathlib.Nat.{mod-lt, add-zero, lt_of_lt_of_le}
use native.Mathlib.Omega.{arith}
use lib.Arith.{digits_lt}
use lib.Pow.{pow_pos, pow-add, pow_mono, shr_lt}
use Rattle.bits.specs.Bits.{bits_of}
use Rattle.bits.specs.Lay.{lay}
use Rattle.bits.specs.ByteRow.{bytes_bits, word_bytes}
use Rattle.bits.proofs.Pack.{bits_join, bits_split, bits_mod, word_length, word_bytes_lem, word_bits}
use Rattle.bits.proofs.LayLaw.{lay_none}
use Rattle.bitwriter.specs.Put.{Put, Room}
use Rattle.bitwriter.specs.declared.BitAcc.{BitAcc}

-- k bits wait: what they leave for n more, and for as many as fill the accumulator
pub below : (k n a : ℕ) → a < 2 ^ k → n < 64 - k → a < 2 ^ (64 - n)
below k n a h g = lt_of_lt_of_le h (pow_mono {i = k} {j = 64 - n} (omega arith))

pub free_again : (k a : ℕ) → k < 64 → a < 2 ^ k → a < 2 ^ (64 - (64 - k))
free_again k a l h = let e : k ≡ 64 - (64 - k) = omega arith in subst (λ (x : ℕ). a < 2 ^ x) e h

pub top : (k n v : ℕ) → 64 - k ≤ n → v < 2 ^ n → v / 2 ^ (n - (64 - k)) < 2 ^ (64 - k)
top k n v g h = let e : n ≡ 64 - k + (n - (64 - k)) = omega arith in shr_lt (64 - k) (n - (64 - k)) (subst (λ (x : ℕ). v < 2 ^ x) e h)

-- moved up to whole bytes, they still fit
pub moved_up : (k a : ℕ) → k < 64 → a < 2 ^ k → a < 2 ^ (64 - (8 * ((k + 7) / 8) - k))
moved_up k a l h = lt_of_lt_of_le h (pow_mono {i = k} {j = 64 - (8 * ((k + 7) / 8) - k)} (omega arith))

pub padding : (k : ℕ) → 0 < 2 ^ (8 * ((k + 7) / 8) - k)
padding k = pow_pos (8 * ((k + 7) / 8) - k)

-- the bits fit the accumulator
pub put_few : (a : BitAcc) (o : List ℕ) (n v x : ℕ) → Room a n o → v < 2 ^ n → a.nbits + n < 64 → x ≡ a.acc * 2 ^ n + v
    → Put a o (bits_of n v) (record { acc = x; nbits = a.nbits + n; pos = a.pos }) o
unfolding bytes_bits
put_few a o n v x s h few e = record {
  ws = [];
  small = tt;
  eights = refl;
  bytes = sym (lay_none o a.pos);
  place = sym (add-zero a.pos);
  within = omega (arith, s.room);
  few = few;
  low = rw (e, pow-add 2 a.nbits n) (digits_lt s.low h);
  bits = ap (bits_of (a.nbits + n)) e ∙ bits_join a.nbits n a.acc v h;
}

-- the accumulator is full: f bits of v fill it, r wait
module _ (a : BitAcc) (o : List ℕ) (n v f r : ℕ) (s : Room a n o) (h : v < 2 ^ n) (full : a.nbits + f ≡ 64) (rest : f + r ≡ n) where
  top_fits : v / 2 ^ r < 2 ^ f
  top_fits = shr_lt f r (subst (λ (k : ℕ). v < 2 ^ k) (sym rest) h)

  put_bits : (w x : ℕ) → w ≡ a.acc * 2 ^ f + v / 2 ^ r → x ≡ v % 2 ^ r → bytes_bits (word_bytes 8 w) ++ bits_of r x ≡ bits_of a.nbits a.acc ++ bits_of n v
  put_bits w x ew ex =
      ap₂ (λ (l m : List Bool). l ++ m)
      (word_bits 8 w ∙ ap₂ bits_of (sym full) ew ∙ bits_join a.nbits f a.acc (v / 2 ^ r) top_fits)
      (ap (bits_of r) ex ∙ bits_mod r v)
      ∙ append_assoc (bits_of a.nbits a.acc) (bits_of f (v / 2 ^ r)) (bits_of r v)
      ∙ ap (λ (l : List Bool). bits_of a.nbits a.acc ++ l) (sym (bits_split f r v) ∙ ap (λ (k : ℕ). bits_of k v) rest)

  pub put_full : (w x : ℕ) (o' : List ℕ) → r < 64 → w ≡ a.acc * 2 ^ f + v / 2 ^ r → x ≡ v % 2 ^ r → o' ≡ lay o a.pos (word_bytes 8 w)
      → Put a o (bits_of n v) (record { acc = x; nbits = r; pos = a.pos + 8 }) o'
  put_full w x o' few ew ex eo = record {
    ws = word_bytes 8 w;
    small = word_bytes_lem 8 w;
    eights = omega (arith, word_length 8 w);
    bytes = eo;
    place = ap (λ (k : ℕ). a.pos + k) (sym (word_length 8 w));
    within = omega (arith, s.room);
    few = few;
    low = rw ex (mod-lt v (pow_pos r));
    bits = put_bits w x ew ex;
  }
