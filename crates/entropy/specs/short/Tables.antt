-- What the tables of short codes hold.
use Rattle.std.specs.Prelude.{List, ℕ, zero, suc, ◌+◌, ◌-◌, ◌*◌, ◌%◌, ℤ}
use Rattle.std.specs.Int.{w16}
use Rattle.std.proofs.Common.{of_z}
use Rattle.scalar.specs.Tab.{tab}
use Rattle.bitwriter.specs.Pairs.{run_word, run_length, value_length}

-- the place of a value: 127 for 0
abbrev pub place_of : ℤ → ℕ
place_of v = (of_z w16 v + 127) % 65536

-- the code of the value at a place: above 0 by so much, or below
abbrev pub code_by : ℕ → ℕ → ℕ
code_by zero below = 2 * below
code_by (suc n) below = 2 * suc n + 1

abbrev pub code_at : ℕ → ℕ
code_at u = code_by (u - 127) (127 - u)

-- a code and its length in one number
abbrev pub run_entry : ℕ → ℕ
run_entry n = run_word n * 16 + run_length n

abbrev pub value_entry : ℕ → ℕ
value_entry u = code_at u * 256 + value_length (code_at u)

unfoldable pub run_table : List ℕ
run_table = tab 64 run_entry

unfoldable pub value_table : List ℕ
value_table = tab 255 value_entry
