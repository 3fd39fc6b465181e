-- The definitions at their extremes, by computing.
use mathlib.Core.Path.{◌≡◌, refl}
use lib.IntN.{ℤ, pos, negsuc}
use mir.Syntax.{w16}
use mir.Val.{to_z}
use Rattle.scalar.specs.Scalar.{sat16, wrap16, wrap32, adds_of, subs_of, add_of, mulhi_of, mulhiu_of, mullo_of, sra_of, sll_of, or_of, abs_of, sign_of, min_of, max_of, madd_of, add32_of, sub32_of, packus_of}

-- -32768 and 32767
abbrev least : ℤ
least = negsuc 32767

abbrev most : ℤ
most = pos 32767

-- -2147483648 and 2147483647
abbrev least32 : ℤ
least32 = negsuc 2147483647

abbrev most32 : ℤ
most32 = pos 2147483647

adds_most : adds_of most (pos 1) ≡ most
unfolding adds_of sat16
adds_most = refl

adds_least : adds_of least (negsuc 0) ≡ least
unfolding adds_of sat16
adds_least = refl

subs_most : subs_of most least ≡ most
unfolding subs_of sat16
subs_most = refl

subs_least : subs_of least most ≡ least
unfolding subs_of sat16
subs_least = refl

add_wraps : add_of most (pos 1) ≡ least
unfolding add_of wrap16
add_wraps = refl

mulhi_least : mulhi_of least least ≡ pos 16384
unfolding mulhi_of
mulhi_least = refl

mulhi_rounds_down : mulhi_of (pos 1) (negsuc 0) ≡ negsuc 0
unfolding mulhi_of
mulhi_rounds_down = refl

-- 65535 times 65535, read as unsigned: the high half is 65534
mulhiu_most : mulhiu_of (negsuc 0) (negsuc 0) ≡ negsuc 1
unfolding mulhiu_of
mulhiu_most = refl

-- 32768 times 2, read as unsigned
mulhiu_top_bit : mulhiu_of least (pos 2) ≡ pos 1
unfolding mulhiu_of
mulhiu_top_bit = refl

mullo_least : mullo_of least (pos 3) ≡ least
unfolding mullo_of wrap16
mullo_least = refl

mullo_most : mullo_of most most ≡ pos 1
unfolding mullo_of wrap16
mullo_most = refl

sra_rounds_down : sra_of (negsuc 0) 15 ≡ negsuc 0
unfolding sra_of
sra_rounds_down = refl

sra_by_none : sra_of least 0 ≡ least
unfolding sra_of
sra_by_none = refl

sll_drops : sll_of (pos 16385) 1 ≡ negsuc 32765
unfolding sll_of
sll_drops = refl

sll_all : sll_of (negsuc 0) 15 ≡ least
unfolding sll_of
sll_all = refl

or_signs : or_of least (pos 1) ≡ negsuc 32766
unfolding or_of
or_signs = refl

-- -32768 has no positive counterpart in 16 bits
abs_least : abs_of least ≡ least
unfolding abs_of wrap16
abs_least = refl

abs_next : abs_of (negsuc 32766) ≡ most
unfolding abs_of wrap16
abs_next = refl

sign_at_zero : sign_of least (pos 0) ≡ pos 0
unfolding sign_of
sign_at_zero = refl

sign_least : sign_of least (negsuc 0) ≡ least
unfolding sign_of wrap16
sign_least = refl

sign_keeps : sign_of (negsuc 4) (pos 1) ≡ negsuc 4
unfolding sign_of
sign_keeps = refl

min_extremes : min_of most least ≡ least
unfolding min_of
min_extremes = refl

max_extremes : max_of least most ≡ most
unfolding max_of
max_extremes = refl

-- the one sum of two products that does not fit 32 bits
madd_wraps : madd_of least least least least ≡ least32
unfolding madd_of wrap32
madd_wraps = refl

add32_wraps : add32_of most32 (pos 1) ≡ least32
unfolding add32_of wrap32
add32_wraps = refl

sub32_wraps : sub32_of least32 (pos 1) ≡ most32
unfolding sub32_of wrap32
sub32_wraps = refl

packus_below : packus_of (negsuc 0) ≡ 0
unfolding packus_of
packus_below = refl

packus_above : packus_of (pos 256) ≡ 255
unfolding packus_of
packus_above = refl

signed_most : to_z w16 65535 ≡ negsuc 0
signed_most = refl

signed_top_bit : to_z w16 32768 ≡ least
signed_top_bit = refl
