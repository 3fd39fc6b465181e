-- The quantiser by rows: two high multiplies of each lane's magnitude, by the numbers of its divisor.
use Rattle.std.specs.Prelude.{List, ℕ, ◌<◌, ℤ, nat_abs, get_or}
use Rattle.scalar.specs.Tab.{tab}
use Rattle.tables.specs.Reciprocal.{two_high}
use Rattle.quant.specs.Quantise.{coefficient, with_sign}

-- the magnitude of lane k with the corrections c, reciprocals r and scales s of a row
abbrev pub multiplied_at : (c r s : List ℕ) → List ℤ → ℕ → ℕ
multiplied_at c r s x k = two_high (get_or c k 0) (get_or r k 0) (get_or s k 0) (nat_abs (coefficient x k))

-- the row, with the signs
unfoldable pub multiplied_row : (c r s : List ℕ) → List ℤ → List ℤ
multiplied_row c r s x = tab 8 (λ k. with_sign (coefficient x k) (multiplied_at c r s x k))

-- no sum and no quotient of the row leaves its bits
abbrev pub RowFits : (c r s : List ℕ) → List ℤ → Type 0
RowFits c r s x = (k : ℕ) → k < 8 → (get_or c k 0 < 32768) × (multiplied_at c r s x k < 32768)
