-- The worked example of document 01, 'Lanes and the block', and two of the signs.
use mathlib.Core.Path.{◌≡◌, refl}
use mathlib.Core.Bool.{false}
use lib.IntN.{pos, negsuc}
use Rattle.scalar.specs.Scalar.{mullo_of, sra_of, wrap16}
use Rattle.tables.specs.Divisor.{divisor}
use Rattle.quant.specs.Quantise.{rounded_division, with_sign, dequantised, dequant_shift}

-- "coefficient 2,048 at place 0 becomes -2,048 for 8-bit"
pub place_0_of_2048 : dequantised (dequant_shift false) (divisor 0 0) (pos 2048) ≡ negsuc 2047
unfolding dequantised mullo_of sra_of wrap16 divisor
place_0_of_2048 = refl

-- -32768 over 16
pub least : rounded_division (negsuc 32767) 16 ≡ negsuc 2047
unfolding rounded_division with_sign
least = refl

-- halves round away from zero
pub half : rounded_division (negsuc 7) 16 ≡ negsuc 0
unfolding rounded_division with_sign
half = refl
