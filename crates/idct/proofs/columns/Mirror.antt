-- The columns of mirrored rows are the columns of the rows, mirrored.
use mathlib.Core.Path.{◌≡◌, refl, sym, ap, ◌∙◌}
use mathlib.Core.Bool.{Bool, true, false, cond}
use mathlib.Core.List.{List}
use Prim.Native.Nat.{ℕ, ◌+◌, ◌-◌, ◌*◌, ◌/◌, ◌%◌, ◌<◌, ◌≤◌}
use native.Mathlib.Omega.{arith}
use lib.Dec.{ltb}
use lib.IntN.{ℤ, pos}
use borrow.Author.Tests.{ltb-false, le-ltb}
use lib.ListN.{get_or}
use Rattle.scalar.specs.Tab.{tab_from, tab}
use Rattle.scalar.proofs.Fill.{get_d_tab, tab_ext}
use Rattle.scalar.proofs.InRows.{row_of_lem, col_of}
use Rattle.shuffles.specs.Shuffles.{selector, high_place, mm_shufflehi_epi16}
use Rattle.lanes.specs.rows.Block.{row_of, block_of}
use Rattle.lanes.proofs.rows.Loops.{row_at_lem, by_place}
use Rattle.irow.specs.RowPass.{lane}
use Rattle.irow.specs.Stages.{mirror_place, inverse_mirror_of}
use Rattle.idct.specs.column.Steps.{Column, inverse_column_of}
use Rattle.idct.specs.columns.Columns.{eight_at, inverse_column_at, inverse_columns_of}

mirror_lt : (k : ℕ) → k < 8 → mirror_place k < 8
mirror_lt k h = go (ltb k 4) refl
  where
    go : (t : Bool) → ltb k 4 ≡ t → cond t k (11 - k) < 8
    go true e = h
    go false e = omega (arith, ltb-false k 4 e)

mirror_twice : (k : ℕ) → k < 8 → mirror_place (mirror_place k) ≡ k
mirror_twice k h = go (ltb k 4) refl
  where
    go : (t : Bool) → ltb k 4 ≡ t → mirror_place (cond t k (11 - k)) ≡ k
    go true e = rw e refl
    go false e =
        let b : 4 ≤ k = ltb-false k 4 e in
        let c : 4 ≤ 11 - k = omega arith in
        rw (le-ltb (11 - k) 4 c) (omega arith)

-- by rows: _mm_shufflehi_epi16 by 0x1b
places : tab 8 (λ k. high_place 27 k) ≡ tab 8 (λ k. mirror_place k)
unfolding high_place selector tab_from
places = refl

pub mirror_law : (a : List ℤ) → block_of (λ r. mm_shufflehi_epi16 (row_of a r) 27) ≡ inverse_mirror_of a
unfolding mm_shufflehi_epi16 inverse_mirror_of
mirror_law a =
    by_place (λ r. tab 8 (λ k. lane (row_of a r) (high_place 27 k))) (λ i. lane a (8 * (i / 8) + mirror_place (i % 8)))
    (λ r k hr hk.
    get_d_tab 8 (λ k. lane (row_of a r) (high_place 27 k)) k (pos 0) hk
    ∙ ap (lane (row_of a r)) (sym (get_d_tab 8 (λ k. high_place 27 k) k 0 hk) ∙ ap (λ (l : List ℕ). get_or l k 0) places ∙ get_d_tab 8 (λ k. mirror_place k) k 0 hk)
    ∙ row_at_lem a r (mirror_place k) (mirror_lt k hk) ∙ rw (row_of_lem r k hk, col_of r k hk) refl)

-- number j of row r of mirrored rows
mirror_at : (w : List ℤ) (j r p q : ℕ) → j < 8 → r < 8 → p ≡ j + 8 * r → q ≡ mirror_place j + 8 * r → lane (inverse_mirror_of w) p ≡ lane w q
unfolding inverse_mirror_of
mirror_at w j r p q hj hr ep eq =
    let a : p / 8 ≡ r = omega arith in
    let b : p % 8 ≡ j = omega arith in
    let c : 8 * r + mirror_place j ≡ q = omega arith in
    get_d_tab 64 (λ i. lane w (8 * (i / 8) + mirror_place (i % 8))) p (pos 0) (omega arith) ∙ rw (a, b, c) refl

pub same : {A : Type 0} (g : ℤ → ℤ → ℤ → ℤ → ℤ → ℤ → ℤ → ℤ → A) {x0 x1 x2 x3 x4 x5 x6 x7 y0 y1 y2 y3 y4 y5 y6 y7 : ℤ}
    → x0 ≡ y0 → x1 ≡ y1 → x2 ≡ y2 → x3 ≡ y3 → x4 ≡ y4 → x5 ≡ y5 → x6 ≡ y6 → x7 ≡ y7 → g x0 x1 x2 x3 x4 x5 x6 x7 ≡ g y0 y1 y2 y3 y4 y5 y6 y7
same g e0 e1 e2 e3 e4 e5 e6 e7 = rw (e0, e1, e2, e3, e4, e5, e6, e7) refl

module _ (round corr : ℤ) (shift : ℕ) (level : ℤ) (w : List ℤ) where
  abbrev at : List ℤ → ℕ → Column
  at l j = inverse_column_at round corr shift level l j

  column_mirror : (j m : ℕ) → j < 8 → mirror_place j ≡ m → at (inverse_mirror_of w) j ≡ at w m
  unfolding inverse_column_at
  column_mirror j m h e =
      same (inverse_column_of round corr shift level)
      (mirror_at w j 0 j m h (omega arith) (omega arith) (omega (arith, e)))
      (mirror_at w j 1 (j + 8) (m + 8) h (omega arith) (omega arith) (omega (arith, e)))
      (mirror_at w j 2 (j + 16) (m + 16) h (omega arith) (omega arith) (omega (arith, e)))
      (mirror_at w j 3 (j + 24) (m + 24) h (omega arith) (omega arith) (omega (arith, e)))
      (mirror_at w j 4 (j + 32) (m + 32) h (omega arith) (omega arith) (omega (arith, e)))
      (mirror_at w j 5 (j + 40) (m + 40) h (omega arith) (omega arith) (omega (arith, e)))
      (mirror_at w j 6 (j + 48) (m + 48) h (omega arith) (omega arith) (omega (arith, e)))
      (mirror_at w j 7 (j + 56) (m + 56) h (omega arith) (omega arith) (omega (arith, e)))

  columns_at_lem : (l : List ℤ) (r k : ℕ) → r < 8 → k < 8 → lane (inverse_columns_of round corr shift level l) (8 * r + k) ≡ eight_at (at l k) r
  unfolding inverse_columns_of
  columns_at_lem l r k hr hk =
      get_d_tab 64 (λ i. eight_at (at l (i % 8)) (i / 8)) (8 * r + k) (pos 0) (omega arith) ∙ rw (row_of_lem r k hk, col_of r k hk) refl

  back_at : (r k : ℕ) → r < 8 → k < 8 → lane (inverse_columns_of round corr shift level (inverse_mirror_of w)) (8 * r + mirror_place k) ≡ eight_at (at w k) r
  back_at r k hr hk =
      columns_at_lem (inverse_mirror_of w) r (mirror_place k) hr (mirror_lt k hk)
      ∙ ap (λ (v : Column). eight_at v r) (column_mirror (mirror_place k) k (mirror_lt k hk) (mirror_twice k hk))

  mirrored : inverse_mirror_of (inverse_columns_of round corr shift level (inverse_mirror_of w)) ≡ tab 64 (λ i. eight_at (at w (i % 8)) (i / 8))
  unfolding inverse_mirror_of
  mirrored = tab_ext 64 (λ i h. back_at (i / 8) (i % 8) (omega arith) (omega arith))

  whole : tab 64 (λ i. eight_at (at w (i % 8)) (i / 8)) ≡ inverse_columns_of round corr shift level w
  unfolding inverse_columns_of
  whole = refl

  pub columns_mirror : inverse_mirror_of (inverse_columns_of round corr shift level (inverse_mirror_of w)) ≡ inverse_columns_of round corr shift level w
  columns_mirror = mirrored ∙ whole
