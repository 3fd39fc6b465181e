-- What shifts and the joined bits of one lane mean, after the Intel Intrinsics Guide. A lane is a number of 16 (or 32) bits, read as signed.
use Rattle.std.specs.Prelude.{ℕ, ◌*◌, ◌%◌, ◌^◌, ℤ}
use Rattle.std.specs.Int.Signed.{shr_z}
use Rattle.std.specs.Int.Bits.{bit_or}
use Rattle.std.specs.Int.{w16}
use Rattle.std.proofs.Common.{of_z, to_z}

-- _mm_srai_epi16, _mm_srai_epi32: rounds down
unfoldable pub sra_of : ℤ → ℕ → ℤ
sra_of a n = shr_z a (2 ^ n)

-- _mm_slli_epi16: the bits shifted left, those above the sixteenth dropped
unfoldable pub sll_of : ℤ → ℕ → ℤ
sll_of a n = to_z w16 ((of_z w16 a * 2 ^ n) % 65536)

-- _mm_or_si128: the bits of both, joined
unfoldable pub or_of : ℤ → ℤ → ℤ
or_of a b = to_z w16 (bit_or (of_z w16 a) (of_z w16 b))
