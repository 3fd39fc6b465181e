-- The three numbers of a divisor, as `reciprocal` of dct.rs computes them, and what the two high multiplies make of them.
use Rattle.std.specs.Prelude.{Bool, true, false, ℕ, ◌+◌, ◌-◌, ◌*◌, ◌/◌, ◌%◌, ◌^◌, eqb, leb}
use Rattle.std.specs.Int.Count.{count_leading_zeros}

abbrev pub pickℕ : Bool → ℕ → ℕ → ℕ
pickℕ true a b = a
pickℕ false a b = b

-- 16 more than the place of the divisor's highest bit
unfoldable pub shift_of : ℕ → ℕ
shift_of d = 31 - count_leading_zeros 16 d

abbrev pub quotient_of : ℕ → ℕ
quotient_of d = 2 ^ shift_of d / d

abbrev pub remainder_of : ℕ → ℕ
remainder_of d = 2 ^ shift_of d % d

-- what is added to the magnitude: half the divisor, one more where the quotient is used rounded down
unfoldable pub correction_of : ℕ → ℕ
correction_of d = pickℕ (eqb (remainder_of d) 0) (d / 2) (pickℕ (leb (remainder_of d) (d / 2)) (d / 2 + 1) (d / 2))

-- the first multiplier: the quotient, halved where the division is exact, else rounded to the nearest
unfoldable pub reciprocal_of : ℕ → ℕ
reciprocal_of d = pickℕ (eqb (remainder_of d) 0) (quotient_of d / 2) (pickℕ (leb (remainder_of d) (d / 2)) (quotient_of d) (quotient_of d + 1))

-- the second multiplier: the power of two that is left
unfoldable pub scale_of : ℕ → ℕ
scale_of d = pickℕ (eqb (remainder_of d) 0) (2 ^ (33 - shift_of d)) (2 ^ (32 - shift_of d))

-- the high 16 bits of a product of two numbers of 16 bits
abbrev pub high_half : ℕ → ℕ → ℕ
high_half a b = a * b / 65536

-- "the two high multiplies" of x with a correction, a reciprocal and a scale
abbrev pub two_high : ℕ → ℕ → ℕ → ℕ → ℕ
two_high c r s x = high_half (high_half (x + c) r) s

-- "(x + divisor/2) / divisor, both divisions of whole numbers rounding down"
abbrev pub rounded : ℕ → ℕ → ℕ
rounded x d = (x + d / 2) / d
