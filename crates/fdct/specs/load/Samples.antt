-- The lanes of eight samples side by side, from a place on. Document 01: "A u8 sample is its own lane; a u16 sample's lane is the
-- sample shifted right by 6".
use Rattle.std.specs.Prelude.{List, ℕ, ◌+◌, ℤ, get_or}
use Rattle.scalar.specs.Tab.{tab}
use Rattle.sample.specs.Depth.{Depth}
use Rattle.sample.specs.Numbers.{lane_of}

unfoldable pub row_lanes_of : Depth → List ℕ → ℕ → List ℤ
row_lanes_of depth rows at = tab 8 (λ k. lane_of depth (get_or rows (at + k) 0))
