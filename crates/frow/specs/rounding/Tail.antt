-- The end of the forward row pass: two pairs added, rounded, shifted by 16 and saturated.
use Rattle.std.specs.Prelude.{List, [], ◌∷◌, ℕ, ℤ, pos}
use Rattle.scalar.specs.Scalar.{sat16, add32_of, sra_of}
use Rattle.scalar.specs.Tab.{lane}
use Rattle.lanes.specs.Lanes.{mm_set1_epi32, mm_add_epi32, mm_srai_epi32, mm_packs_epi32}
use Rattle.lanes.specs.rows.Block.{wide_of, block_of}

-- one coefficient
unfoldable pub tail_of : ℤ → ℤ → ℤ
tail_of a b = sat16 (sra_of (add32_of (add32_of a b) (pos 32768)) 16)

-- four of them, not yet saturated
unfoldable pub rounded_of : List ℤ → List ℤ → List ℤ
rounded_of near far = mm_srai_epi32 (mm_add_epi32 (mm_add_epi32 near far) (mm_set1_epi32 (pos 32768))) 16

-- the lanes of both halves of a row in turn
unfoldable pub weave_of : List ℤ → List ℤ
weave_of a = lane a 0 ∷ lane a 4 ∷ lane a 1 ∷ lane a 5 ∷ lane a 2 ∷ lane a 6 ∷ lane a 3 ∷ lane a 7 ∷ []

-- row r: its even coefficients from the pairs m0 and m1, the odd ones from m2 and m3
unfoldable pub end_row : List ℤ → List ℤ → List ℤ → List ℤ → ℕ → List ℤ
end_row m0 m1 m2 m3 r = weave_of (mm_packs_epi32 (rounded_of (wide_of m0 r) (wide_of m1 r)) (rounded_of (wide_of m2 r) (wide_of m3 r)))

abbrev pub ends_of : List ℤ → List ℤ → List ℤ → List ℤ → List ℤ
ends_of m0 m1 m2 m3 = block_of (end_row m0 m1 m2 m3)
