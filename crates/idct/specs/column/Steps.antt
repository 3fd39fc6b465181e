-- One column of the inverse transform. Document 01: "The column passes are the listed order of steps (AP-922 style)."
use Rattle.std.specs.Prelude.{ℕ, ℤ, pos, negsuc}
unfoldable pub use Rattle.scalar.specs.Named.{◌▸◌}
use Rattle.scalar.specs.Scalar.{adds_of, subs_of, mulhi_of, or_of, sra_of}

-- four numbers of a column, between two stages
pub record Stage : Type 0 where
  pub h0 : ℤ
  pub h1 : ℤ
  pub h2 : ℤ
  pub h3 : ℤ

-- the eight numbers of a column, from the top
pub record Column : Type 0 where
  pub y0 : ℤ
  pub y1 : ℤ
  pub y2 : ℤ
  pub y3 : ℤ
  pub y4 : ℤ
  pub y5 : ℤ
  pub y6 : ℤ
  pub y7 : ℤ

-- TG_1_16, TG_2_16, TG_3_16, COS_4_16 of tables.rs
abbrev pub tg1 : ℤ
tg1 = pos 13036

abbrev pub tg2 : ℤ
tg2 = pos 27146

abbrev pub tg3 : ℤ
tg3 = negsuc 21745

abbrev pub cos4 : ℤ
cos4 = negsuc 19194

-- the steps on rows 1, 3, 5 and 7
unfoldable pub inverse_odd_of : ℤ → ℤ → ℤ → ℤ → Stage
inverse_odd_of x1 x3 x5 x7 =
    mulhi_of x5 tg3 ▸ λ m5.
    mulhi_of tg3 x3 ▸ λ m3.
    mulhi_of x7 tg1 ▸ λ m7.
    adds_of m5 x5 ▸ λ a5.
    mulhi_of tg1 x1 ▸ λ m1.
    adds_of m3 x3 ▸ λ a3.
    adds_of a5 x3 ▸ λ s35.
    subs_of x5 a3 ▸ λ d35.
    subs_of m1 x7 ▸ λ d17.
    adds_of m7 x1 ▸ λ s17.
    adds_of s35 s17 ▸ λ t0.
    adds_of t0 (pos 1) ▸ λ o0.
    subs_of s17 s35 ▸ λ u.
    subs_of d17 d35 ▸ λ v0.
    adds_of v0 (pos 1) ▸ λ v.
    adds_of d17 d35 ▸ λ o3.
    adds_of u v ▸ λ p.
    mulhi_of cos4 p ▸ λ mp.
    subs_of u v ▸ λ q.
    mulhi_of cos4 q ▸ λ mq.
    adds_of p mp ▸ λ p1.
    or_of p1 (pos 1) ▸ λ o1.
    adds_of mq q ▸ λ q1.
    or_of q1 (pos 1) ▸ λ o2.
    record { h0 = o0; h1 = o1; h2 = o2; h3 = o3 }

-- the steps on rows 0, 2, 4 and 6; the sums are rounded by `round`, the differences by `corr`
unfoldable pub inverse_even_of : ℤ → ℤ → ℤ → ℤ → ℤ → ℤ → Stage
inverse_even_of round corr x0 x2 x4 x6 =
    mulhi_of x6 tg2 ▸ λ m6.
    mulhi_of tg2 x2 ▸ λ m2.
    adds_of m6 x2 ▸ λ s26.
    subs_of m2 x6 ▸ λ d26.
    adds_of x4 x0 ▸ λ s04.
    subs_of x0 x4 ▸ λ d04.
    adds_of s04 s26 ▸ λ a0.
    adds_of a0 round ▸ λ e0.
    subs_of s04 s26 ▸ λ a3.
    adds_of d04 d26 ▸ λ a1.
    adds_of a1 round ▸ λ e1.
    subs_of d04 d26 ▸ λ a2.
    adds_of a2 corr ▸ λ e2.
    adds_of a3 corr ▸ λ e3.
    record { h0 = e0; h1 = e1; h2 = e2; h3 = e3 }

-- a sum or a difference of the two stages, shifted, and the level added
unfoldable pub inverse_sum_of : ℕ → ℤ → ℤ → ℤ → ℤ
inverse_sum_of shift level a b = adds_of (sra_of (adds_of a b) shift) level

unfoldable pub inverse_diff_of : ℕ → ℤ → ℤ → ℤ → ℤ
inverse_diff_of shift level a b = adds_of (sra_of (subs_of a b) shift) level

-- both stages joined: the upper half are sums, the lower half differences
unfoldable pub inverse_join_of : ℕ → ℤ → Stage → Stage → Column
inverse_join_of shift level o e =
    record {
      y0 = inverse_sum_of shift level o.h0 e.h0;
      y1 = inverse_sum_of shift level e.h1 o.h1;
      y2 = inverse_sum_of shift level e.h2 o.h2;
      y3 = inverse_sum_of shift level o.h3 e.h3;
      y4 = inverse_diff_of shift level e.h3 o.h3;
      y5 = inverse_diff_of shift level e.h2 o.h2;
      y6 = inverse_diff_of shift level e.h1 o.h1;
      y7 = inverse_diff_of shift level e.h0 o.h0;
    }

-- the column of x0 to x7, level added, not clamped
unfoldable pub inverse_column_of : ℤ → ℤ → ℕ → ℤ → ℤ → ℤ → ℤ → ℤ → ℤ → ℤ → ℤ → ℤ → Column
inverse_column_of round corr shift level x0 x1 x2 x3 x4 x5 x6 x7 =
    inverse_join_of shift level (inverse_odd_of x1 x3 x5 x7) (inverse_even_of round corr x0 x2 x4 x6)
