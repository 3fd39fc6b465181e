-- The column pass on rows is the column pass: the stages joined, lane by lane.
use mathlib.Core.Path.{◌≡◌, refl, sym, ap, ◌∙◌}
use mathlib.Core.List.{List}
use Prim.Native.Nat.{ℕ, zero, suc, ◌+◌, ◌*◌, ◌/◌, ◌%◌, ◌<◌}
use native.Mathlib.Omega.{arith}
use lib.IntN.{ℤ, pos}
use lib.ListN.{replicate}
use Rattle.scalar.specs.Scalar.{adds_of, subs_of, sra_of}
use Rattle.scalar.specs.Tab.{lane}
use Rattle.scalar.proofs.InRows.{row_of_lem, col_of}
use Rattle.lanes.specs.Lanes.{mm_adds_epi16, mm_subs_epi16, mm_srai_epi16}
use Rattle.lanes.specs.rows.Block.{row_of, put_of, block_of}
use Rattle.lanes.proofs.rows.Loops.{row_at_lem, RowsPut, put_turn, put_done, by_place}
use Rattle.idct.specs.declared.Four.{Four}
use Rattle.idct.specs.column.Steps.{Stage, Column, inverse_odd_of, inverse_even_of, inverse_sum_of, inverse_diff_of, inverse_join_of, inverse_column_of}
use Rattle.idct.specs.column.Rows.{inverse_odd_rows, inverse_even_rows, sum_row, diff_row, inverse_join_rows}
use Rattle.idct.specs.columns.Columns.{eight_at, inverse_column_at, inverse_columns_of}
use Rattle.idct.proofs.column.Lanes.{Lane, adds, subs, srai, Same, odd_lanes, even_lanes}
use Rattle.idct.proofs.columns.Mirror.{same}
use Rattle.idct.proofs.columns.Level.{add_zero, shift_fits, adds_fits, subs_fits}

-- ---- a row of the result

sum_lane : (shift : ℕ) {k : ℕ} {a b : List ℤ} {x y : ℤ} → Lane k a x → Lane k b y → lane (sum_row shift a b) k ≡ inverse_sum_of shift (pos 0) x y
unfolding sum_row inverse_sum_of
sum_lane shift {x = x} {y = y} p q = (srai shift (adds p q)).eq ∙ sym (add_zero (sra_of (adds_of x y) shift) (shift_fits (adds_of x y) shift (adds_fits x y)))

diff_lane : (shift : ℕ) {k : ℕ} {a b : List ℤ} {x y : ℤ} → Lane k a x → Lane k b y → lane (diff_row shift a b) k ≡ inverse_diff_of shift (pos 0) x y
unfolding diff_row inverse_diff_of
diff_lane shift {x = x} {y = y} p q = (srai shift (subs p q)).eq ∙ sym (add_zero (sra_of (subs_of x y) shift) (shift_fits (subs_of x y) shift (subs_fits x y)))

join_at : (shift k : ℕ) {o e : Four} {p q : Stage} → Same k o p → Same k e q → (r : ℕ) → r < 8 → lane (inverse_join_rows shift o e r) k ≡ eight_at (inverse_join_of shift (pos 0) p q) r
unfolding inverse_join_rows inverse_join_of
join_at shift k s t zero h = sum_lane shift s.e0 t.e0
join_at shift k s t (suc zero) h = sum_lane shift t.e1 s.e1
join_at shift k s t (suc (suc zero)) h = sum_lane shift t.e2 s.e2
join_at shift k s t (suc (suc (suc zero))) h = sum_lane shift s.e3 t.e3
join_at shift k s t (suc (suc (suc (suc zero)))) h = diff_lane shift t.e3 s.e3
join_at shift k s t (suc (suc (suc (suc (suc zero))))) h = diff_lane shift t.e2 s.e2
join_at shift k s t (suc (suc (suc (suc (suc (suc zero)))))) h = diff_lane shift t.e1 s.e1
join_at shift k s t (suc (suc (suc (suc (suc (suc (suc zero))))))) h = diff_lane shift t.e0 s.e0
join_at shift k s t (suc (suc (suc (suc (suc (suc (suc (suc r)))))))) h = absurd (omega arith)

-- the two calls that make one
pub sum_call : (shift : ℕ) (a b : List ℤ) {s r : List ℤ} → s ≡ mm_adds_epi16 a b → r ≡ mm_srai_epi16 s shift → r ≡ sum_row shift a b
unfolding sum_row
sum_call shift a b e f = f ∙ ap (λ (l : List ℤ). mm_srai_epi16 l shift) e

pub diff_call : (shift : ℕ) (a b : List ℤ) {s r : List ℤ} → s ≡ mm_subs_epi16 a b → r ≡ mm_srai_epi16 s shift → r ≡ diff_row shift a b
unfolding diff_row
diff_call shift a b e f = f ∙ ap (λ (l : List ℤ). mm_srai_epi16 l shift) e

-- ---- the whole block

module _ (round corr : ℤ) (shift : ℕ) (w : List ℤ) where
  abbrev x : ℕ → List ℤ
  x r = row_of w r

  abbrev odds : Four
  odds = inverse_odd_rows (x 1) (x 3) (x 5) (x 7)

  abbrev evens : Four
  evens = inverse_even_rows round corr (x 0) (x 2) (x 4) (x 6)

  at : (r k p : ℕ) → k < 8 → p ≡ 8 * r + k → lane (x r) k ≡ lane w p
  at r k p h e = row_at_lem w r k h ∙ sym (ap (lane w) e)

  column : (k : ℕ) → k < 8
      → inverse_join_of shift (pos 0) (inverse_odd_of (lane (x 1) k) (lane (x 3) k) (lane (x 5) k) (lane (x 7) k)) (inverse_even_of round corr (lane (x 0) k) (lane (x 2) k) (lane (x 4) k) (lane (x 6) k))
      ≡ inverse_column_at round corr shift (pos 0) w k
  unfolding inverse_column_at inverse_column_of
  column k h =
      same (inverse_column_of round corr shift (pos 0))
      (at 0 k k h (omega arith)) (at 1 k (k + 8) h (omega arith)) (at 2 k (k + 16) h (omega arith)) (at 3 k (k + 24) h (omega arith))
      (at 4 k (k + 32) h (omega arith)) (at 5 k (k + 40) h (omega arith)) (at 6 k (k + 48) h (omega arith)) (at 7 k (k + 56) h (omega arith))

  rows_law : block_of (inverse_join_rows shift odds evens) ≡ inverse_columns_of round corr shift (pos 0) w
  unfolding inverse_columns_of
  rows_law =
      by_place (inverse_join_rows shift odds evens) (λ i. eight_at (inverse_column_at round corr shift (pos 0) w (i % 8)) (i / 8))
      (λ r k hr hk.
      join_at shift k (odd_lanes k hk (x 1) (x 3) (x 5) (x 7)) (even_lanes round corr k hk (x 0) (x 2) (x 4) (x 6)) r hr
      ∙ ap (λ (c : Column). eight_at c r) (column k hk) ∙ rw (row_of_lem r k hk, col_of r k hk) refl)

  -- the calls of a depth's columns
  pub columns_law : {x0 x1 x2 x3 x4 x5 x6 x7 : List ℤ} {o e : Four} {r : List ℤ} → x1 ≡ x 1 → x3 ≡ x 3 → x5 ≡ x 5 → x7 ≡ x 7 → o ≡ inverse_odd_rows x1 x3 x5 x7
      → x0 ≡ x 0 → x2 ≡ x 2 → x4 ≡ x 4 → x6 ≡ x 6 → e ≡ inverse_even_rows round corr x0 x2 x4 x6 → r ≡ block_of (inverse_join_rows shift o e)
      → r ≡ inverse_columns_of round corr shift (pos 0) w
  columns_law h1 h3 h5 h7 ho h0 h2 h4 h6 he hr = rw (hr, ho, he, h0, h1, h2, h3, h4, h5, h6, h7) rows_law

-- ---- eight rows, put in from the top

module _ (g : ℕ → List ℤ) where
  begin : {b : List ℤ} → b ≡ replicate 64 (pos 0) → RowsPut g b 0
  begin e = rw e (omega arith, (refl, refl))

  pub eight_rows : {b0 b1 b2 b3 b4 b5 b6 b7 b8 x0 x1 x2 x3 x4 x5 x6 x7 : List ℤ} → b0 ≡ replicate 64 (pos 0)
      → b1 ≡ put_of b0 0 x0 → x0 ≡ g 0 → b2 ≡ put_of b1 1 x1 → x1 ≡ g 1 → b3 ≡ put_of b2 2 x2 → x2 ≡ g 2 → b4 ≡ put_of b3 3 x3 → x3 ≡ g 3
      → b5 ≡ put_of b4 4 x4 → x4 ≡ g 4 → b6 ≡ put_of b5 5 x5 → x5 ≡ g 5 → b7 ≡ put_of b6 6 x6 → x6 ≡ g 6 → b8 ≡ put_of b7 7 x7 → x7 ≡ g 7 → b8 ≡ block_of g
  eight_rows {b0} {b1} {b2} {b3} {b4} {b5} {b6} {b7} {b8} e p0 q0 p1 q1 p2 q2 p3 q3 p4 q4 p5 q5 p6 q6 p7 q7 =
      put_done g b8 8 (omega arith)
      (put_turn g b7 7 (omega arith) (put_turn g b6 6 (omega arith) (put_turn g b5 5 (omega arith) (put_turn g b4 4 (omega arith) (put_turn g b3 3 (omega arith) (put_turn g b2 2 (omega arith) (put_turn g b1 1 (omega arith) (put_turn g b0 0 (omega arith) (begin e) p0 q0) p1 q1) p2 q2) p3 q3) p4 q4) p5 q5) p6 q6) p7 q7)
