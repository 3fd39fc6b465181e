-- Where the numbers of each preset and place stand. Document 01, 'Quantiser numbers'.
use Rattle.std.specs.Prelude.{◌≡◌, List, ℕ, zero, suc, ◌/◌, ◌%◌, ◌<◌}
use Rattle.scalar.specs.Tab.{tab}
use Rattle.tables.specs.Divisor.{divisor}
use Rattle.tables.specs.Reciprocal.{correction_of, reciprocal_of, scale_of}

-- "For each divisor there are three numbers (correction, reciprocal, scale)": kinds 0, 1, 2
unfoldable pub number_for : ℕ → ℕ → ℕ
number_for zero d = correction_of d
number_for (suc zero) d = reciprocal_of d
number_for (suc (suc kind)) d = scale_of d

-- a number by preset and place: the one way in which definitions look one up
unfoldable pub number_at : ℕ → ℕ → ℕ → ℕ
number_at kind preset place = number_for kind (divisor preset place)

abbrev pub correction_at : ℕ → ℕ → ℕ
correction_at preset place = number_at 0 preset place

abbrev pub reciprocal_at : ℕ → ℕ → ℕ
reciprocal_at preset place = number_at 1 preset place

abbrev pub scale_at : ℕ → ℕ → ℕ
scale_at preset place = number_at 2 preset place

-- "They are held as one constant table of 4,800 numbers": by preset, then place, then kind
abbrev pub entry_at : ℕ → ℕ
entry_at i = number_at (i % 3) (i / 192) (i / 3 % 64)

unfoldable pub constant_table : List ℕ
constant_table = tab 4800 entry_at

-- corrections, then reciprocals, then scales, each in natural order
abbrev pub encode_at : ℕ → ℕ → ℕ
encode_at preset j = number_at (j / 64) preset (j % 64)

-- the 192 numbers of a preset (`encode` of QuantTables)
unfoldable pub encode_of : ℕ → List ℕ
encode_of preset = tab 192 (encode_at preset)

-- the numbers k are those of one of the presets
pub record Encodes (k : List ℕ) : Type 0 where
  pub preset : ℕ
  pub preset_lt : preset < 25
  pub numbers : k ≡ encode_of preset

-- P holds of each preset whose numbers are k
abbrev pub EveryPreset : List ℕ → (ℕ → Type 0) → Type 0
EveryPreset k P = (preset : ℕ) → preset < 25 → k ≡ encode_of preset → P preset
