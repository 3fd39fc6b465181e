-- The operations of lanes.rs that move lanes and look at them, after the Intel Intrinsics Guide; each definition is named after its intrinsic.
-- A vector is the list of its lanes, the lowest first: eight numbers of 16 bits or four of 32, read as signed.
use Rattle.std.specs.Prelude.{List, [], ◌∷◌, ℕ, ℤ}
use Rattle.scalar.specs.Tab.{tab, lane}
unfoldable pub use Rattle.shuffles.specs.places.Chosen.{selector, pair_place, low_place, high_place}
unfoldable pub use Rattle.shuffles.specs.mask.Mask.{flag, nonzero_mask}

unfoldable pub mm_shuffle_epi32 : List ℤ → ℕ → List ℤ
mm_shuffle_epi32 a imm = tab 4 (λ k. lane a (selector imm k))

-- _mm_shuffle_epi32 on eight 16-bit lanes
unfoldable pub mm_shuffle_epi32_16 : List ℤ → ℕ → List ℤ
mm_shuffle_epi32_16 a imm = tab 8 (λ k. lane a (pair_place imm k))

unfoldable pub mm_shufflelo_epi16 : List ℤ → ℕ → List ℤ
mm_shufflelo_epi16 a imm = tab 8 (λ k. lane a (low_place imm k))

unfoldable pub mm_shufflehi_epi16 : List ℤ → ℕ → List ℤ
mm_shufflehi_epi16 a imm = tab 8 (λ k. lane a (high_place imm k))

-- _mm_unpacklo_epi32 on eight 16-bit lanes: pairs of a and of b in turn
unfoldable pub mm_unpacklo_epi32_16 : List ℤ → List ℤ → List ℤ
mm_unpacklo_epi32_16 a b = lane a 0 ∷ lane a 1 ∷ lane b 0 ∷ lane b 1 ∷ lane a 2 ∷ lane a 3 ∷ lane b 2 ∷ lane b 3 ∷ []
