-- What a sum and a difference of one lane mean, after the Intel Intrinsics Guide. A lane is a number of 16 bits, read as signed.
use Rattle.std.specs.Prelude.{ℤ, ◌+ℤ◌, ◌-ℤ◌}
use Rattle.scalar.specs.cuts.Cuts.{sat16, wrap16}

-- _mm_adds_epi16
unfoldable pub adds_of : ℤ → ℤ → ℤ
adds_of a b = sat16 (a +ℤ b)

-- _mm_subs_epi16
unfoldable pub subs_of : ℤ → ℤ → ℤ
subs_of a b = sat16 (a -ℤ b)

-- _mm_add_epi16
unfoldable pub add_of : ℤ → ℤ → ℤ
add_of a b = wrap16 (a +ℤ b)
