-- The forward transform's column pass: one column of eight lanes, the listed order of steps (dct.rs, fdct_quant_zig; AP-922 style).
use Rattle.std.specs.Prelude.{ℕ, ◌+◌, ℤ, pos, negsuc}
unfoldable pub use Rattle.scalar.specs.Named.{◌▸◌}
use Rattle.scalar.specs.Scalar.{adds_of, subs_of, mulhi_of, sll_of, or_of}

-- FDCT_TAN1, FDCT_TAN2, FDCT_TAN3 (43790 as 16 bits, read as signed), FDCT_SQRT2, FDCT_ROUND1 of tables.rs
abbrev pub tan1 : ℤ
tan1 = pos 13036

abbrev pub tan2 : ℤ
tan2 = pos 27146

abbrev pub tan3 : ℤ
tan3 = negsuc 21745

abbrev pub sqrt2 : ℤ
sqrt2 = pos 23170

abbrev pub rounder : ℤ
rounder = pos 1

-- what the first steps make of a column
pub record Sides : Type 0 where
  pub tp03 : ℤ
  pub tp12 : ℤ
  pub tm03 : ℤ
  pub tm12 : ℤ
  pub d0 : ℤ
  pub d1 : ℤ
  pub d2 : ℤ
  pub d3 : ℤ

-- rows 0, 2, 4 and 6 of a column, and the others
pub record Evens : Type 0 where
  pub c0 : ℤ
  pub c2 : ℤ
  pub c4 : ℤ
  pub c6 : ℤ

pub record Odds : Type 0 where
  pub c1 : ℤ
  pub c3 : ℤ
  pub c5 : ℤ
  pub c7 : ℤ

-- a column: one lane of each of eight rows
pub record Lanes : Type 0 where
  pub v0 : ℤ
  pub v1 : ℤ
  pub v2 : ℤ
  pub v3 : ℤ
  pub v4 : ℤ
  pub v5 : ℤ
  pub v6 : ℤ
  pub v7 : ℤ

-- sums for the even rows, differences of opposite lanes for the odd ones
unfoldable pub butterfly_of : ℤ → ℤ → ℤ → ℤ → ℤ → ℤ → ℤ → ℤ → Sides
butterfly_of x0 x1 x2 x3 x4 x5 x6 x7 =
    subs_of x0 x7 ▸ λ d0.
    adds_of x7 x0 ▸ λ s0.
    subs_of x2 x5 ▸ λ d2.
    adds_of x5 x2 ▸ λ s2.
    subs_of x3 x4 ▸ λ d3.
    adds_of x4 x3 ▸ λ s3.
    subs_of x1 x6 ▸ λ d1.
    adds_of x6 x1 ▸ λ s1.
    subs_of s0 s3 ▸ λ tm03.
    subs_of s1 s2 ▸ λ tm12.
    adds_of s3 s3 ▸ λ s3Twice.
    adds_of s2 s2 ▸ λ s2Twice.
    adds_of s3Twice tm03 ▸ λ tp03.
    adds_of s2Twice tm12 ▸ λ tp12.
    record { tp03 = tp03; tp12 = tp12; tm03 = tm03; tm12 = tm12; d0 = d0; d1 = d1; d2 = d2; d3 = d3 }

-- rows 0, 2, 4 and 6
unfoldable pub forward_even_of : ℕ → ℤ → ℤ → ℤ → ℤ → Evens
forward_even_of shift tp03 tp12 tm03 tm12 =
    sll_of tp03 shift ▸ λ p03.
    sll_of tp12 shift ▸ λ p12.
    sll_of tm03 shift ▸ λ m03.
    sll_of tm12 shift ▸ λ m12.
    subs_of p03 p12 ▸ λ c4.
    adds_of p12 p12 ▸ λ p12Twice.
    adds_of p12Twice c4 ▸ λ c0.
    mulhi_of tan2 m03 ▸ λ m03Tan2.
    subs_of m03Tan2 m12 ▸ λ c6Even.
    mulhi_of tan2 m12 ▸ λ m12Tan2.
    adds_of m12Tan2 m03 ▸ λ c2Even.
    or_of c2Even rounder ▸ λ c2.
    or_of c6Even rounder ▸ λ c6.
    record { c0 = c0; c2 = c2; c4 = c4; c6 = c6 }

-- rows 1, 3, 5 and 7
unfoldable pub forward_odd_of : ℕ → ℤ → ℤ → ℤ → ℤ → Odds
forward_odd_of shift d0 d1 d2 d3 =
    sll_of d2 (shift + 1) ▸ λ x2.
    sll_of d1 (shift + 1) ▸ λ x1.
    sll_of d3 shift ▸ λ x3.
    sll_of d0 shift ▸ λ x0.
    subs_of x1 x2 ▸ λ diff.
    adds_of x2 x2 ▸ λ x2Twice.
    adds_of x2Twice diff ▸ λ sum.
    mulhi_of sum sqrt2 ▸ λ tp65Even.
    mulhi_of diff sqrt2 ▸ λ tm65.
    or_of tp65Even rounder ▸ λ tp65.
    subs_of x3 tm65 ▸ λ tm465.
    subs_of x0 tp65 ▸ λ tm765.
    adds_of tp65 x0 ▸ λ tp765.
    adds_of tm65 x3 ▸ λ tp465.
    mulhi_of tm465 tan3 ▸ λ tm465Tan3.
    adds_of tm465Tan3 tm465 ▸ λ tmp3.
    mulhi_of tp465 tan1 ▸ λ tmp4.
    mulhi_of tm765 tan3 ▸ λ tm765Tan3.
    adds_of tm765Tan3 tm765 ▸ λ tmp5.
    mulhi_of tp765 tan1 ▸ λ tmp6.
    adds_of tmp4 tp765 ▸ λ c1.
    subs_of tm765 tmp3 ▸ λ c3.
    adds_of tm465 tmp5 ▸ λ c5.
    subs_of tmp6 tp465 ▸ λ c7.
    record { c1 = c1; c3 = c3; c5 = c5; c7 = c7 }

-- the column pass of one column
unfoldable pub forward_column_of : ℕ → ℤ → ℤ → ℤ → ℤ → ℤ → ℤ → ℤ → ℤ → Lanes
forward_column_of shift x0 x1 x2 x3 x4 x5 x6 x7 =
    butterfly_of x0 x1 x2 x3 x4 x5 x6 x7 ▸ λ b.
    forward_even_of shift b.tp03 b.tp12 b.tm03 b.tm12 ▸ λ e.
    forward_odd_of shift b.d0 b.d1 b.d2 b.d3 ▸ λ o.
    record { v0 = e.c0; v1 = o.c1; v2 = e.c2; v3 = o.c3; v4 = e.c4; v5 = o.c5; v6 = e.c6; v7 = o.c7 }
