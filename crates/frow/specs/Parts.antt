-- The rows' tables as the code has them.
use Rattle.std.specs.Prelude.{List, ℕ, ◌+◌, ◌*◌, ◌/◌, ◌%◌, ℤ}
use Rattle.scalar.specs.Tab.{tab}
use Rattle.frow.specs.Rows.{table_at, entry_of}

-- of each row, two numbers for each of the coefficients 2 j + o: those for the lanes near it (f is 0), or for the rest (1)
abbrev pub table_part_at : ℕ → ℕ → ℕ → ℤ
table_part_at o f i = table_at (i / 8) (entry_of (2 * (i / 2 % 4) + o) + 8 * f + i % 2)

unfoldable pub table_part : ℕ → ℕ → List ℤ
table_part o f = tab 64 (table_part_at o f)
