-- The quantiser as rounded division with the sign, the scan, and dequantising. A block is a list of 64 numbers.
use Rattle.std.specs.Prelude.{Bool, List, ℕ, ℤ, pos, nat_abs, get_or}
use Rattle.scalar.specs.Scalar.{mullo_of, sra_of}
use Rattle.scalar.specs.Tab.{tab}
pub use Rattle.sample.specs.Numbers.{dequant_shift}
use Rattle.tables.specs.Divisor.{divisor}
use Rattle.tables.specs.Reciprocal.{rounded}
use Rattle.tables.specs.Zigzag.{unzigzag_at}
unfoldable pub use Rattle.quant.specs.one.Sign.{with_sign}
pub use Rattle.quant.specs.scan.Scan.{coefficient}
unfoldable pub use Rattle.quant.specs.scan.Scan.{scan_of}

-- "(x + divisor/2) / divisor" of the magnitude, with the sign; the magnitude of -32768 is 32768
unfoldable pub rounded_division : ℤ → ℕ → ℤ
rounded_division x d = with_sign x (rounded (nat_abs x) d)

-- the quantised block, natural order
unfoldable pub quantise_of : ℕ → List ℤ → List ℤ
quantise_of preset l = tab 64 (λ i. rounded_division (coefficient l i) (divisor preset i))

-- a block from scan order to natural order
unfoldable pub natural_of : List ℤ → List ℤ
natural_of l = tab 64 (λ j. coefficient l (unzigzag_at j))

-- "Dequantising keeps the low 16 bits of the product, then shifts right": one coefficient
unfoldable pub dequantised : ℕ → ℕ → ℤ → ℤ
dequantised shift d n = sra_of (mullo_of n (pos d)) shift

-- the block dequantised by the divisors d and a shift, natural order
unfoldable pub dequantise_with : ℕ → List ℕ → List ℤ → List ℤ
dequantise_with shift d l = tab 64 (λ i. dequantised shift (get_or d i 0) (coefficient l i))

-- the same by a preset's divisors
unfoldable pub dequantise_by : ℕ → ℕ → List ℤ → List ℤ
dequantise_by shift preset l = tab 64 (λ i. dequantised shift (divisor preset i) (coefficient l i))

-- the dequantised block of a depth (true: 10-bit)
abbrev pub dequantise_of : Bool → ℕ → List ℤ → List ℤ
dequantise_of ten preset l = dequantise_by (dequant_shift ten) preset l
