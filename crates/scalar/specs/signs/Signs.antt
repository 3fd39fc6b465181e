-- What the operations on the sign of one lane mean, after the Intel Intrinsics Guide. A lane is a number of 16 bits, read as signed.
use Rattle.std.specs.Prelude.{zero, suc, ℤ, pos, negsuc, neg_ℤ}
use Rattle.std.specs.Int.Signed.{lt_z}
use mir.Val.{sel}
use Rattle.scalar.specs.cuts.Cuts.{wrap16}

-- _mm_abs_epi16: -32768 stays
unfoldable pub abs_of : ℤ → ℤ
abs_of (pos n) = pos n
abs_of (negsuc n) = wrap16 (pos (suc n))

-- _mm_sign_epi16: a with the sign of b, 0 where b is 0
unfoldable pub sign_of : ℤ → ℤ → ℤ
sign_of a (pos zero) = pos zero
sign_of a (pos (suc n)) = a
sign_of a (negsuc n) = wrap16 (neg_ℤ a)

-- _mm_min_epi16
unfoldable pub min_of : ℤ → ℤ → ℤ
min_of a b = sel (lt_z a b) a b

-- _mm_max_epi16
unfoldable pub max_of : ℤ → ℤ → ℤ
max_of a b = sel (lt_z a b) b a
