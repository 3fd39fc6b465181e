-- Numbers clamped to the range of a sample, and the size of a shift.
use mathlib.Core.Path.{◌≡◌, refl}
use mathlib.Core.Bool.{Bool, true, false}
use Prim.Native.Nat.{ℕ, ◌*◌, ◌<◌}
use native.Mathlib.Omega.{arith}
use lib.IntN.{ℤ, pos, negsuc, nat_abs}
use lib.Signed.{lt_z}
use borrow.Author.Tests.{le-ltb}
use Rattle.std.specs.Int.{int_max, int_min}
use Rattle.scalar.specs.Scalar.{packus_of, max_of}
use Rattle.sample.specs.Numbers.{dequant_shift, ten_of, sample_of}

-- how many values a sample of each depth has
abbrev pub sample_top : Bool → ℕ
sample_top false = 256
sample_top true = 65536

pub sample_lt : (ten : Bool) (z : ℤ) → sample_of ten z < sample_top ten
unfolding packus_of ten_of
sample_lt false (pos n) = omega arith
sample_lt false (negsuc n) = omega arith
sample_lt true (pos n) = omega arith
sample_lt true (negsuc n) = omega arith

-- the 10-bit sample of a clamped number
pub clamped_ten : (z r : ℤ) → r ≡ int_max (pos 0) (int_min z (pos 1023)) → nat_abs r * 64 ≡ ten_of z
unfolding ten_of
clamped_ten (pos n) r e = grind arith
clamped_ten (negsuc n) r e = grind arith

-- a sample of 8 bits is that of the number with 0 for what is below 0
pub from_zero : (x : ℤ) → packus_of (max_of x (pos 0)) ≡ packus_of x
unfolding packus_of max_of
from_zero (pos n) =
    let e : lt_z (pos n) (pos 0) ≡ false = le-ltb n 0 (omega arith) in
    rw e refl
from_zero (negsuc n) = refl

-- a depth's shift of the dequantised products is one that a shift of 16 bits takes
pub dequant_shift_small : (ten : Bool) → dequant_shift ten < 16
dequant_shift_small false = omega arith
dequant_shift_small true = omega arith
