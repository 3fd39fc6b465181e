-- The operations of lanes.rs on vectors of 128 bits, after the Intel Intrinsics Guide; each definition is named after its intrinsic.
-- A vector is the list of its lanes, the lowest first: eight numbers of 16 bits or four of 32, read as signed.
use Rattle.std.specs.Prelude.{List, ◌++◌, ℕ, ◌+◌, ◌*◌, ℤ, get_or}
use Rattle.std.specs.Int.{w16}
use Rattle.std.proofs.Common.{to_z}
use Rattle.scalar.specs.Scalar.{sat16, adds_of, subs_of, add_of, mulhi_of, mulhiu_of, mullo_of, sra_of, sll_of, or_of, abs_of, sign_of, min_of, max_of, madd_of, add32_of, sub32_of, packus_of}
use Rattle.scalar.specs.Tab.{tab, lane}

-- f of each lane of a
abbrev pub map1 : {B : Type 0} → ℕ → (ℤ → B) → List ℤ → List B
map1 n f a = tab n (λ k. f (lane a k))

-- f of each lane of a and the same lane of b
abbrev pub map2 : ℕ → (ℤ → ℤ → ℤ) → List ℤ → List ℤ → List ℤ
map2 n f a b = tab n (λ k. f (lane a k) (lane b k))

unfoldable pub mm_set1_epi16 : ℤ → List ℤ
mm_set1_epi16 v = tab 8 (λ k. v)

unfoldable pub mm_set1_epi32 : ℤ → List ℤ
mm_set1_epi32 v = tab 4 (λ k. v)

-- _mm_loadu_si128 of unsigned constants: their 16 bits, read as signed
unfoldable pub mm_loadu_si128 : List ℕ → List ℤ
mm_loadu_si128 a = tab 8 (λ k. to_z w16 (get_or a k 0))

unfoldable pub mm_adds_epi16 : List ℤ → List ℤ → List ℤ
mm_adds_epi16 a b = map2 8 adds_of a b

unfoldable pub mm_subs_epi16 : List ℤ → List ℤ → List ℤ
mm_subs_epi16 a b = map2 8 subs_of a b

unfoldable pub mm_add_epi16 : List ℤ → List ℤ → List ℤ
mm_add_epi16 a b = map2 8 add_of a b

unfoldable pub mm_mulhi_epi16 : List ℤ → List ℤ → List ℤ
mm_mulhi_epi16 a b = map2 8 mulhi_of a b

unfoldable pub mm_mulhi_epu16 : List ℤ → List ℤ → List ℤ
mm_mulhi_epu16 a b = map2 8 mulhiu_of a b

unfoldable pub mm_mullo_epi16 : List ℤ → List ℤ → List ℤ
mm_mullo_epi16 a b = map2 8 mullo_of a b

unfoldable pub mm_srai_epi16 : List ℤ → ℕ → List ℤ
mm_srai_epi16 a n = map1 8 (λ x. sra_of x n) a

unfoldable pub mm_slli_epi16 : List ℤ → ℕ → List ℤ
mm_slli_epi16 a n = map1 8 (λ x. sll_of x n) a

unfoldable pub mm_or_si128 : List ℤ → List ℤ → List ℤ
mm_or_si128 a b = map2 8 or_of a b

-- -32768 stays
unfoldable pub mm_abs_epi16 : List ℤ → List ℤ
mm_abs_epi16 a = map1 8 abs_of a

unfoldable pub mm_sign_epi16 : List ℤ → List ℤ → List ℤ
mm_sign_epi16 a b = map2 8 sign_of a b

unfoldable pub mm_min_epi16 : List ℤ → List ℤ → List ℤ
mm_min_epi16 a b = map2 8 min_of a b

unfoldable pub mm_max_epi16 : List ℤ → List ℤ → List ℤ
mm_max_epi16 a b = map2 8 max_of a b

-- the products of each pair of lanes, added
unfoldable pub mm_madd_epi16 : List ℤ → List ℤ → List ℤ
mm_madd_epi16 a b = tab 4 (λ k. madd_of (lane a (2 * k)) (lane b (2 * k)) (lane a (2 * k + 1)) (lane b (2 * k + 1)))

unfoldable pub mm_add_epi32 : List ℤ → List ℤ → List ℤ
mm_add_epi32 a b = map2 4 add32_of a b

unfoldable pub mm_sub_epi32 : List ℤ → List ℤ → List ℤ
mm_sub_epi32 a b = map2 4 sub32_of a b

unfoldable pub mm_srai_epi32 : List ℤ → ℕ → List ℤ
mm_srai_epi32 a n = map1 4 (λ x. sra_of x n) a

-- a's four lanes, then b's, each saturated
unfoldable pub mm_packs_epi32 : List ℤ → List ℤ → List ℤ
mm_packs_epi32 a b = map1 8 sat16 (a ++ b)

-- each lane as the nearest byte (the low half of the intrinsic's result)
unfoldable pub mm_packus_epi16 : List ℤ → List ℕ
mm_packus_epi16 a = map1 8 packus_of a
