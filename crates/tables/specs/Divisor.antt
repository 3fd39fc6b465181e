-- The divisors of the quantiser. Document 01, 'Quantiser numbers': "25 presets of 64 divisors."
use Rattle.std.specs.Prelude.{List, [], ◌∷◌, ℕ, zero, suc, ◌*◌, get_or}
use Rattle.scalar.specs.Tab.{tab}

-- the base matrix (DEFAULT_QUANTIZATION_MATRIX), natural order
unfoldable pub base_matrix : List ℕ
base_matrix =
    16 ∷ 16 ∷ 19 ∷ 22 ∷ 26 ∷ 27 ∷ 29 ∷ 34 ∷
    16 ∷ 16 ∷ 22 ∷ 24 ∷ 27 ∷ 29 ∷ 34 ∷ 37 ∷
    19 ∷ 22 ∷ 26 ∷ 27 ∷ 29 ∷ 34 ∷ 34 ∷ 38 ∷
    22 ∷ 22 ∷ 26 ∷ 27 ∷ 29 ∷ 34 ∷ 37 ∷ 40 ∷
    22 ∷ 26 ∷ 27 ∷ 29 ∷ 32 ∷ 35 ∷ 40 ∷ 48 ∷
    26 ∷ 27 ∷ 29 ∷ 32 ∷ 35 ∷ 40 ∷ 48 ∷ 58 ∷
    26 ∷ 27 ∷ 29 ∷ 34 ∷ 38 ∷ 46 ∷ 56 ∷ 69 ∷
    27 ∷ 29 ∷ 35 ∷ 38 ∷ 46 ∷ 56 ∷ 69 ∷ 83 ∷ []

-- the factor of each preset (QUALITY)
unfoldable pub quality_factors : List ℕ
quality_factors =
    1 ∷ 2 ∷ 3 ∷ 4 ∷ 5 ∷ 6 ∷ 7 ∷ 8 ∷ 10 ∷ 12 ∷ 14 ∷ 16 ∷ 18 ∷ 20 ∷ 22 ∷ 24 ∷ 28 ∷ 32 ∷ 36 ∷ 40 ∷ 44 ∷ 48 ∷ 52 ∷ 56 ∷ 64 ∷ []

-- "Place 0 has divisor 16; place y has base matrix entry y times the preset's QUALITY entry."
unfoldable pub divisor : ℕ → ℕ → ℕ
divisor preset zero = 16
divisor preset (suc y) = get_or base_matrix (suc y) 0 * get_or quality_factors preset 0

-- the 64 divisors of a preset, natural order (`decode` of QuantTables)
unfoldable pub divisors_of : ℕ → List ℕ
divisors_of preset = tab 64 (divisor preset)
