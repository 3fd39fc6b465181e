-- The column pass on rows of eight lanes, by the operations of lanes.rs. Document 01: "rows of eight lanes go by value through transform and quantiser".
use Rattle.std.specs.Prelude.{List, [], ◌∷◌, ℕ, ℤ, pos, get_or}
use Rattle.lanes.specs.Lanes.{mm_set1_epi16, mm_adds_epi16, mm_subs_epi16, mm_mulhi_epi16, mm_or_si128, mm_srai_epi16}
use Rattle.idct.specs.column.Steps.{◌▸◌, tg1, tg2, tg3, cos4}
use Rattle.idct.specs.declared.Four.{Four}

-- the steps on rows 1, 3, 5 and 7
unfoldable pub inverse_odd_rows : List ℤ → List ℤ → List ℤ → List ℤ → Four
inverse_odd_rows x1 x3 x5 x7 =
    mm_set1_epi16 tg1 ▸ λ tan1.
    mm_set1_epi16 tg3 ▸ λ tan3.
    mm_set1_epi16 cos4 ▸ λ cos4s.
    mm_set1_epi16 (pos 1) ▸ λ one.
    mm_mulhi_epi16 x5 tan3 ▸ λ m5.
    mm_mulhi_epi16 tan3 x3 ▸ λ m3.
    mm_mulhi_epi16 x7 tan1 ▸ λ m7.
    mm_adds_epi16 m5 x5 ▸ λ a5.
    mm_mulhi_epi16 tan1 x1 ▸ λ m1.
    mm_adds_epi16 m3 x3 ▸ λ a3.
    mm_adds_epi16 a5 x3 ▸ λ s35.
    mm_subs_epi16 x5 a3 ▸ λ d35.
    mm_subs_epi16 m1 x7 ▸ λ d17.
    mm_adds_epi16 m7 x1 ▸ λ s17.
    mm_adds_epi16 s35 s17 ▸ λ t0.
    mm_adds_epi16 t0 one ▸ λ o0.
    mm_subs_epi16 s17 s35 ▸ λ u.
    mm_subs_epi16 d17 d35 ▸ λ v0.
    mm_adds_epi16 v0 one ▸ λ v.
    mm_adds_epi16 d17 d35 ▸ λ o3.
    mm_adds_epi16 u v ▸ λ p.
    mm_mulhi_epi16 cos4s p ▸ λ mp.
    mm_subs_epi16 u v ▸ λ q.
    mm_mulhi_epi16 cos4s q ▸ λ mq.
    mm_adds_epi16 p mp ▸ λ p1.
    mm_or_si128 p1 one ▸ λ o1.
    mm_adds_epi16 mq q ▸ λ q1.
    mm_or_si128 q1 one ▸ λ o2.
    record { r0 = o0; r1 = o1; r2 = o2; r3 = o3 }

-- the steps on rows 0, 2, 4 and 6; the sums are rounded by `round`, the differences by `corr`
unfoldable pub inverse_even_rows : ℤ → ℤ → List ℤ → List ℤ → List ℤ → List ℤ → Four
inverse_even_rows round corr x0 x2 x4 x6 =
    mm_set1_epi16 tg2 ▸ λ tan2.
    mm_set1_epi16 round ▸ λ rnd.
    mm_set1_epi16 corr ▸ λ cor.
    mm_mulhi_epi16 x6 tan2 ▸ λ m6.
    mm_mulhi_epi16 tan2 x2 ▸ λ m2.
    mm_adds_epi16 m6 x2 ▸ λ s26.
    mm_subs_epi16 m2 x6 ▸ λ d26.
    mm_adds_epi16 x4 x0 ▸ λ s04.
    mm_subs_epi16 x0 x4 ▸ λ d04.
    mm_adds_epi16 s04 s26 ▸ λ a0.
    mm_adds_epi16 a0 rnd ▸ λ e0.
    mm_subs_epi16 s04 s26 ▸ λ a3.
    mm_adds_epi16 d04 d26 ▸ λ a1.
    mm_adds_epi16 a1 rnd ▸ λ e1.
    mm_subs_epi16 d04 d26 ▸ λ a2.
    mm_adds_epi16 a2 cor ▸ λ e2.
    mm_adds_epi16 a3 cor ▸ λ e3.
    record { r0 = e0; r1 = e1; r2 = e2; r3 = e3 }

-- a sum or a difference of two rows, shifted
unfoldable pub sum_row : ℕ → List ℤ → List ℤ → List ℤ
sum_row shift a b = mm_srai_epi16 (mm_adds_epi16 a b) shift

unfoldable pub diff_row : ℕ → List ℤ → List ℤ → List ℤ
diff_row shift a b = mm_srai_epi16 (mm_subs_epi16 a b) shift

-- row r of both stages joined: the upper four are sums, the lower four differences
unfoldable pub inverse_join_rows : ℕ → Four → Four → ℕ → List ℤ
inverse_join_rows shift o e r =
    get_or
    (sum_row shift o.r0 e.r0 ∷ sum_row shift e.r1 o.r1 ∷ sum_row shift e.r2 o.r2 ∷ sum_row shift o.r3 e.r3 ∷
    diff_row shift e.r3 o.r3 ∷ diff_row shift e.r2 o.r2 ∷ diff_row shift e.r1 o.r1 ∷ diff_row shift e.r0 o.r0 ∷ []) r []
