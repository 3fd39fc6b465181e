-- The sums of a row, on its lanes of 32 bits: the pairs of products x0 to x3 of its numbers, by the operations of lanes.rs.
use Rattle.std.specs.Prelude.{List, ℕ, ℤ}
use Rattle.scalar.specs.Named.{◌▸◌}
use Rattle.lanes.specs.Lanes.{mm_set1_epi32, mm_add_epi32, mm_sub_epi32, mm_srai_epi32, mm_packs_epi32}

unfoldable pub sums_row : ℤ → ℕ → List ℤ → List ℤ → List ℤ → List ℤ → List ℤ
sums_row round shift x0 x1 x2 x3 =
    mm_add_epi32 (mm_add_epi32 x0 (mm_set1_epi32 round)) x1 ▸ λ even.
    mm_add_epi32 x2 x3 ▸ λ odd.
    mm_packs_epi32 (mm_srai_epi32 (mm_add_epi32 even odd) shift) (mm_srai_epi32 (mm_sub_epi32 even odd) shift)
