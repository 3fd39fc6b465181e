-- From the coefficients of a block to its samples: dequantised, transformed, clamped.
use Rattle.std.specs.Prelude.{Bool, List, ℕ, ℤ}
use Rattle.scalar.specs.Scalar.{adds_of}
use Rattle.irow.specs.RowPass.{lane}
use Rattle.paint.specs.Samples.{sample_of}
use Rattle.quant.specs.Quantise.{dequantise_of}
use Rattle.idct.specs.Inverse.{inverse_of}

-- sample i of the block whose coefficients in natural order are nat (`ten`: true for 10-bit planes)
unfoldable pub block_sample : Bool → ℕ → ℤ → List ℤ → ℕ → ℕ
block_sample ten preset level nat i = sample_of ten (lane (inverse_of ten level (dequantise_of ten preset nat)) i)

-- sample i of a block's numbers v, to which the level is still to be added
unfoldable pub number_sample : Bool → ℤ → List ℤ → ℕ → ℕ
number_sample ten level v i = sample_of ten (adds_of (lane v i) level)
