-- The shuffles that dct.rs names, on lanes that are their own numbers, and a mask, by computing.
use mathlib.Core.Path.{◌≡◌, refl}
use mathlib.Core.List.{List, [], ◌∷◌}
use lib.IntN.{ℤ, pos, negsuc}
use Rattle.scalar.specs.Tab.{tab_from}
use Rattle.shuffles.specs.Shuffles.{selector, mm_shuffle_epi32, pair_place, mm_shuffle_epi32_16, low_place, mm_shufflelo_epi16, high_place, mm_shufflehi_epi16, mm_unpacklo_epi32_16, flag, nonzero_mask}

abbrev four : List ℤ
four = pos 0 ∷ pos 1 ∷ pos 2 ∷ pos 3 ∷ []

abbrev eight : List ℤ
eight = pos 0 ∷ pos 1 ∷ pos 2 ∷ pos 3 ∷ pos 4 ∷ pos 5 ∷ pos 6 ∷ pos 7 ∷ []

abbrev tens : List ℤ
tens = pos 10 ∷ pos 11 ∷ pos 12 ∷ pos 13 ∷ pos 14 ∷ pos 15 ∷ pos 16 ∷ pos 17 ∷ []

-- 0x1b
reversed : mm_shuffle_epi32 four 27 ≡ pos 3 ∷ pos 2 ∷ pos 1 ∷ pos 0 ∷ []
unfolding mm_shuffle_epi32 selector tab_from
reversed = refl

-- 0b0100_1110
halves_swapped : mm_shuffle_epi32_16 eight 78 ≡ pos 4 ∷ pos 5 ∷ pos 6 ∷ pos 7 ∷ pos 0 ∷ pos 1 ∷ pos 2 ∷ pos 3 ∷ []
unfolding mm_shuffle_epi32_16 pair_place selector tab_from
halves_swapped = refl

-- 0xaa
third_pair : mm_shuffle_epi32_16 eight 170 ≡ pos 4 ∷ pos 5 ∷ pos 4 ∷ pos 5 ∷ pos 4 ∷ pos 5 ∷ pos 4 ∷ pos 5 ∷ []
unfolding mm_shuffle_epi32_16 pair_place selector tab_from
third_pair = refl

-- 0xd8
low_middle_swapped : mm_shufflelo_epi16 eight 216 ≡ pos 0 ∷ pos 2 ∷ pos 1 ∷ pos 3 ∷ pos 4 ∷ pos 5 ∷ pos 6 ∷ pos 7 ∷ []
unfolding mm_shufflelo_epi16 low_place selector tab_from
low_middle_swapped = refl

-- 0b0001_1011
high_reversed : mm_shufflehi_epi16 eight 27 ≡ pos 0 ∷ pos 1 ∷ pos 2 ∷ pos 3 ∷ pos 7 ∷ pos 6 ∷ pos 5 ∷ pos 4 ∷ []
unfolding mm_shufflehi_epi16 high_place selector tab_from
high_reversed = refl

pairs_in_turn : mm_unpacklo_epi32_16 eight tens ≡ pos 0 ∷ pos 1 ∷ pos 10 ∷ pos 11 ∷ pos 2 ∷ pos 3 ∷ pos 12 ∷ pos 13 ∷ []
unfolding mm_unpacklo_epi32_16
pairs_in_turn = refl

mask_of_eight : nonzero_mask (pos 0 ∷ pos 1 ∷ negsuc 0 ∷ pos 0 ∷ negsuc 32767 ∷ pos 0 ∷ pos 0 ∷ pos 256 ∷ []) ≡ 150
unfolding nonzero_mask flag
mask_of_eight = refl
