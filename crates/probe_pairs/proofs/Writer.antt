-- What the bit writer asks, where 63 bits fit. Assumes nothing.
use mathlib.Core.Bool.{Bool}
use mathlib.Core.List.{List, ◌∷◌, ◌++◌}
use mathlib.Core.Path.{◌≡◌, ap}
use Prim.Native.Nat.{ℕ, ◌+◌, ◌^◌, ◌≤◌, ◌<◌}
use native.Mathlib.Omega.{arith}
use lib.ListN.{length, length-append}
use Rattle.bits.specs.Bits.{bits_of, value_code, run_code}
use Rattle.bits.proofs.Leading.{length_le}
use Rattle.bits.proofs.Codes.{length_bits_of}
use Rattle.bits.proofs.CodeWord.{value_length_lem, run_length_lem}
use Rattle.bitwriter.specs.Put.{Put, Room}
use Rattle.bitwriter.specs.declared.BitAcc.{BitAcc}
use Rattle.bitwriter.proofs.Writer.{wrote_count}
use Rattle.probe_pairs.specs.Kept.{Going, Fits, Grown}

pub room_of_lem : (a : BitAcc) (n : ℕ) (o : List ℕ) → Going a × Fits a o → n ≤ 63 → Room a n o
room_of_lem a n o g h = record { few = g.0.0; low = g.0.1; room = omega (arith, g.1) }

pub grown_of : (a r : BitAcc) {o o' : List ℕ} (bs : List Bool) → length bs ≤ 63 → Put a o bs r o' → Grown a r
grown_of a r bs h w = omega (arith, wrote_count w, length-append (bits_of a.nbits a.acc) bs, length_bits_of a.nbits a.acc)

-- one pair fewer is left
pub one_less : {A : Type 0} {x : A} {xs ys : List A} → xs ≡ x ∷ ys → length xs ≡ length ys + 1
one_less e = omega (arith, ap length e)

pub value_long : (c : ℕ) → 0 < c → c < 2 ^ 32 → length (value_code c) ≤ 63
value_long c p h = omega (arith, value_length_lem c p (omega (arith, h)), length_le 32 c h)

pub run_long : (n : ℕ) → n < 2 ^ 31 → length (run_code n) ≤ 62
run_long n h = omega (arith, run_length_lem n (omega (arith, h)), length_le 31 n h)

pub both_long : (n c : ℕ) → n < 2 ^ 17 → 0 < c → c < 2 ^ 15 → length (run_code n ++ value_code c) ≤ 63
both_long n c h p q =
    omega (
      arith,
      length-append (run_code n) (value_code c),
      run_length_lem n (omega (arith, h)),
      length_le 17 n h,
      value_length_lem c p (omega (arith, q)),
      length_le 15 c q,
    )
