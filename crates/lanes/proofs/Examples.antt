-- The definitions on vectors, by computing: which lane goes where.
use mathlib.Core.Path.{◌≡◌, refl}
use mathlib.Core.List.{List, [], ◌∷◌}
use lib.IntN.{ℤ, pos, negsuc}
use Rattle.scalar.specs.Scalar.{sat16, wrap16, wrap32, subs_of, abs_of, madd_of, packus_of}
use Rattle.scalar.specs.Tab.{tab_from}
use Rattle.lanes.specs.Lanes.{mm_set1_epi32, mm_loadu_si128, mm_subs_epi16, mm_abs_epi16, mm_madd_epi16, mm_packs_epi32, mm_packus_epi16}

abbrev a : List ℤ
a = pos 0 ∷ pos 1 ∷ pos 2 ∷ pos 3 ∷ pos 300 ∷ negsuc 0 ∷ negsuc 32767 ∷ pos 32767 ∷ []

abbrev b : List ℤ
b = pos 1 ∷ pos 1 ∷ pos 1 ∷ negsuc 0 ∷ pos 0 ∷ pos 1 ∷ pos 1 ∷ negsuc 0 ∷ []

splat32_four : mm_set1_epi32 (negsuc 1) ≡ negsuc 1 ∷ negsuc 1 ∷ negsuc 1 ∷ negsuc 1 ∷ []
unfolding mm_set1_epi32 tab_from
splat32_four = refl

load_u_signs : mm_loadu_si128 (0 ∷ 1 ∷ 32767 ∷ 32768 ∷ 32769 ∷ 65534 ∷ 65535 ∷ 2 ∷ [])
    ≡ pos 0 ∷ pos 1 ∷ pos 32767 ∷ negsuc 32767 ∷ negsuc 32766 ∷ negsuc 1 ∷ negsuc 0 ∷ pos 2 ∷ []
unfolding mm_loadu_si128 tab_from
load_u_signs = refl

subs_saturates : mm_subs_epi16 a b ≡ negsuc 0 ∷ pos 0 ∷ pos 1 ∷ pos 4 ∷ pos 300 ∷ negsuc 1 ∷ negsuc 32767 ∷ pos 32767 ∷ []
unfolding mm_subs_epi16 tab_from subs_of sat16
subs_saturates = refl

abs_keeps_least : mm_abs_epi16 a ≡ pos 0 ∷ pos 1 ∷ pos 2 ∷ pos 3 ∷ pos 300 ∷ pos 1 ∷ negsuc 32767 ∷ pos 32767 ∷ []
unfolding mm_abs_epi16 tab_from abs_of wrap16
abs_keeps_least = refl

madd_pairs : mm_madd_epi16 a b ≡ pos 1 ∷ negsuc 0 ∷ negsuc 0 ∷ negsuc 65534 ∷ []
unfolding mm_madd_epi16 tab_from madd_of wrap32
madd_pairs = refl

packs_order : mm_packs_epi32 (pos 1 ∷ pos 32768 ∷ negsuc 32768 ∷ pos 2 ∷ []) (pos 3 ∷ pos 4 ∷ negsuc 5 ∷ pos 2147483647 ∷ [])
    ≡ pos 1 ∷ pos 32767 ∷ negsuc 32767 ∷ pos 2 ∷ pos 3 ∷ pos 4 ∷ negsuc 5 ∷ pos 32767 ∷ []
unfolding mm_packs_epi32 tab_from sat16
packs_order = refl

packus_clamps : mm_packus_epi16 a ≡ 0 ∷ 1 ∷ 2 ∷ 3 ∷ 255 ∷ 0 ∷ 0 ∷ 255 ∷ []
unfolding mm_packus_epi16 tab_from packus_of
packus_clamps = refl
