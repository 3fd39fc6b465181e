-- What the operations on one lane of 32 bits mean, after the Intel Intrinsics Guide. A lane is read as signed.
use Rattle.std.specs.Prelude.{ℤ, ◌+ℤ◌, ◌-ℤ◌, ◌*ℤ◌}
use Rattle.scalar.specs.cuts.Cuts.{wrap32}

-- _mm_add_epi32
unfoldable pub add32_of : ℤ → ℤ → ℤ
add32_of a b = wrap32 (a +ℤ b)

-- _mm_sub_epi32
unfoldable pub sub32_of : ℤ → ℤ → ℤ
sub32_of a b = wrap32 (a -ℤ b)

-- _mm_madd_epi16: a pair of products, added; the sum of 32 bits wraps
unfoldable pub madd_of : ℤ → ℤ → ℤ → ℤ → ℤ
madd_of a b c d = wrap32 (a *ℤ b +ℤ c *ℤ d)
