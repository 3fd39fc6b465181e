-- Bytes laid into a buffer.
use Rattle.std.specs.Prelude.{List, ◌++◌, ℕ, ◌+◌, length, take, drop}

-- xs in the place of what lies at i
unfoldable pub lay : List ℕ → ℕ → List ℕ → List ℕ
lay l i xs = take i l ++ (xs ++ drop (i + length xs) l)
