-- Dequantising by rows.
use Rattle.std.specs.Prelude.{List, ℕ, ℤ, get_or}
use Rattle.scalar.specs.Tab.{tab}
use Rattle.irow.specs.Stages.{paired_place}
use Rattle.quant.specs.Quantise.{coefficient, dequantised}

-- a row by its divisors, in the order 0 2 1 3 4 6 5 7
unfoldable pub dequantised_row : ℕ → List ℕ → List ℤ → List ℤ
dequantised_row shift d x = tab 8 (λ k. dequantised shift (get_or d (paired_place k) 0) (coefficient x (paired_place k)))
