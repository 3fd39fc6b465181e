-- Blocks of 64 lanes and their rows of eight. Document 01: "8 by 8 blocks of i16 and rows of eight lanes go by value through transform and quantiser".
use Rattle.std.specs.Prelude.{List, ℕ, ◌+◌, ◌*◌, ◌/◌, ◌%◌, ℤ, get_or}
use Rattle.std.proofs.lemmas.List.Edits.{sets}
use Rattle.scalar.specs.Tab.{tab, lane}

-- row r of a block
unfoldable pub row_of : List ℤ → ℕ → List ℤ
row_of b r = tab 8 (λ k. lane b (8 * r + k))

-- the block b with x as its row r: the lanes of x stored from place 8 r on
unfoldable pub put_of : List ℤ → ℕ → List ℤ → List ℤ
put_of b r x = sets b (8 * r) (tab 8 (lane x))

-- row r of eight rows of four lanes
unfoldable pub wide_of : List ℤ → ℕ → List ℤ
wide_of m r = tab 4 (λ k. lane m (4 * r + k))

-- eight numbers from a place on
unfoldable pub numbers_of : List ℕ → ℕ → List ℕ
numbers_of t at = tab 8 (λ k. get_or t (at + k) 0)

-- place i of the block whose row r is g r
abbrev pub in_rows : (ℕ → List ℤ) → ℕ → ℤ
in_rows g i = lane (g (i / 8)) (i % 8)

-- the block whose row r is g r
unfoldable pub block_of : (ℕ → List ℤ) → List ℤ
block_of g = tab 64 (in_rows g)
