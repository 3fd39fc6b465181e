-- The scan. A block is a list of 64 numbers.
use Rattle.std.specs.Prelude.{List, [], ◌∷◌, ℕ, ℤ, pos, get_or}
use Rattle.scalar.specs.Tab.{tab}
use Rattle.tables.specs.Zigzag.{zigzag_at}

-- the number at a place of a block
abbrev pub coefficient : List ℤ → ℕ → ℤ
coefficient l i = get_or l i (pos 0)

-- a block from natural order to scan order
unfoldable pub scan_of : List ℤ → List ℤ
scan_of l = tab 64 (λ i. coefficient l (zigzag_at i))

-- four numbers of a block
abbrev pub four_of : List ℤ → (i0 i1 i2 i3 : ℕ) → List ℤ
four_of l i0 i1 i2 i3 = coefficient l i0 ∷ coefficient l i1 ∷ coefficient l i2 ∷ coefficient l i3 ∷ []
