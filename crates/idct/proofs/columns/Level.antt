-- The level may be added after the columns: at level 0 their sums are as they were shifted.
use mathlib.Core.Path.{◌≡◌, sym, ap, ◌∙◌}
use mathlib.Core.List.{List}
use Prim.Native.Nat.{ℕ, zero, suc, ◌/◌, ◌%◌, ◌<◌, ◌^◌}
use native.Mathlib.Omega.{arith}
use lib.IntN.{ℤ, pos, ◌+ℤ◌, ◌-ℤ◌, +ℤ_idr}
use mir.Syntax.{w16}
use mir.Val.{SFits}
use Rattle.scalar.specs.Scalar.{sat16, adds_of, subs_of, sra_of}
use Rattle.scalar.proofs.cuts.Nearest.{sat_mid}
use Rattle.scalar.proofs.Laws.{sat_fits, shr_fits}
use Rattle.scalar.proofs.Fill.{get_d_tab, tab_ext}
use Rattle.idct.specs.column.Steps.{Stage, inverse_sum_of, inverse_diff_of, inverse_join_of, inverse_column_of}
use Rattle.idct.specs.columns.Columns.{eight_at, inverse_column_at, inverse_columns_of, level_added_of}

pub add_zero : (z : ℤ) → SFits w16 z → adds_of z (pos 0) ≡ z
unfolding adds_of
add_zero z h = ap sat16 (+ℤ_idr z) ∙ sym (sat_mid z h)

pub shift_fits : (z : ℤ) (n : ℕ) → SFits w16 z → SFits w16 (sra_of z n)
unfolding sra_of
shift_fits z n h = shr_fits (2 ^ n) h

pub adds_fits : (a b : ℤ) → SFits w16 (adds_of a b)
unfolding adds_of
adds_fits a b = sat_fits (a +ℤ b)

pub subs_fits : (a b : ℤ) → SFits w16 (subs_of a b)
unfolding subs_of
subs_fits a b = sat_fits (a -ℤ b)

sum_level : (shift : ℕ) (level a b : ℤ) → adds_of (inverse_sum_of shift (pos 0) a b) level ≡ inverse_sum_of shift level a b
unfolding inverse_sum_of
sum_level shift level a b = ap (λ (z : ℤ). adds_of z level) (add_zero (sra_of (adds_of a b) shift) (shift_fits (adds_of a b) shift (adds_fits a b)))

diff_level : (shift : ℕ) (level a b : ℤ) → adds_of (inverse_diff_of shift (pos 0) a b) level ≡ inverse_diff_of shift level a b
unfolding inverse_diff_of
diff_level shift level a b = ap (λ (z : ℤ). adds_of z level) (add_zero (sra_of (subs_of a b) shift) (shift_fits (subs_of a b) shift (subs_fits a b)))

join_level : (shift : ℕ) (level : ℤ) (o e : Stage) (k : ℕ) → k < 8 → adds_of (eight_at (inverse_join_of shift (pos 0) o e) k) level ≡ eight_at (inverse_join_of shift level o e) k
unfolding inverse_join_of
join_level shift level o e zero h = sum_level shift level o.h0 e.h0
join_level shift level o e (suc zero) h = sum_level shift level e.h1 o.h1
join_level shift level o e (suc (suc zero)) h = sum_level shift level e.h2 o.h2
join_level shift level o e (suc (suc (suc zero))) h = sum_level shift level o.h3 e.h3
join_level shift level o e (suc (suc (suc (suc zero)))) h = diff_level shift level e.h3 o.h3
join_level shift level o e (suc (suc (suc (suc (suc zero))))) h = diff_level shift level e.h2 o.h2
join_level shift level o e (suc (suc (suc (suc (suc (suc zero)))))) h = diff_level shift level e.h1 o.h1
join_level shift level o e (suc (suc (suc (suc (suc (suc (suc zero))))))) h = diff_level shift level e.h0 o.h0
join_level shift level o e (suc (suc (suc (suc (suc (suc (suc (suc k)))))))) h = absurd (omega arith)

module _ (round corr : ℤ) (shift : ℕ) (level : ℤ) (w : List ℤ) where
  column_level : (j k : ℕ) → k < 8 → adds_of (eight_at (inverse_column_at round corr shift (pos 0) w j) k) level ≡ eight_at (inverse_column_at round corr shift level w j) k
  unfolding inverse_column_at inverse_column_of
  column_level j k h = join_level shift level _ _ k h

  pub columns_level : level_added_of level (inverse_columns_of round corr shift (pos 0) w) ≡ inverse_columns_of round corr shift level w
  unfolding level_added_of inverse_columns_of
  columns_level =
      tab_ext 64
      (λ i h.
      ap (λ (z : ℤ). adds_of z level) (get_d_tab 64 (λ i. eight_at (inverse_column_at round corr shift (pos 0) w (i % 8)) (i / 8)) i (pos 0) h)
      ∙ column_level (i % 8) (i / 8) (omega arith))
