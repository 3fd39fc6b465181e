-- What a product of one lane means, after the Intel Intrinsics Guide. A lane is a number of 16 bits, read as signed.
use Rattle.std.specs.Prelude.{◌*◌, ◌/◌, ℤ, ◌*ℤ◌}
use Rattle.std.specs.Int.Signed.{shr_z}
use Rattle.std.specs.Int.{w16}
use Rattle.std.proofs.Common.{of_z, to_z}
use Rattle.scalar.specs.cuts.Cuts.{wrap16}

-- _mm_mulhi_epi16: the high half of the product
unfoldable pub mulhi_of : ℤ → ℤ → ℤ
mulhi_of a b = shr_z (a *ℤ b) 65536

-- _mm_mulhi_epu16: the high half of the product of the two, read as unsigned
unfoldable pub mulhiu_of : ℤ → ℤ → ℤ
mulhiu_of a b = to_z w16 (of_z w16 a * of_z w16 b / 65536)

-- _mm_mullo_epi16: the low half of the product
unfoldable pub mullo_of : ℤ → ℤ → ℤ
mullo_of a b = wrap16 (a *ℤ b)
