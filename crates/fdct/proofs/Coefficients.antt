-- What holds of the coefficients of any block: there are 64, and each fits 16 bits.
use mathlib.Core.Bool.{Bool}
use mathlib.Core.List.{List}
use mathlib.Core.Path.{◌≡◌, sym, subst}
use Prim.Native.Nat.{ℕ, ◌/◌, ◌%◌, ◌<◌}
use lib.IntN.{ℤ, pos}
use lib.ListN.{length, get_or}
use mir.Syntax.{w16}
use mir.Val.{SFits}
use Rattle.scalar.proofs.Fill.{length_tab, get_d_tab}
use Rattle.scalar.proofs.Laws.{sat_fits}
use Rattle.frow.specs.Rows.{dot_of, coefficient_at, forward_rows_of}
use Rattle.fdct.specs.Forward.{column_shift, level_shift_of, forward_columns_of, transform_of, forward_of}

length_rows : (b : List ℤ) → length (forward_rows_of b) ≡ 64
unfolding forward_rows_of
length_rows b = length_tab 64 (λ i. coefficient_at b (i / 8) (i % 8))

coefficient_fits : (b : List ℤ) (r u : ℕ) → SFits w16 (coefficient_at b r u)
unfolding coefficient_at dot_of
coefficient_fits b r u = sat_fits _

rows_fits : (b : List ℤ) (i : ℕ) → i < 64 → SFits w16 (get_or (forward_rows_of b) i (pos 0))
unfolding forward_rows_of
rows_fits b i h = subst (λ (z : ℤ). SFits w16 z) (sym (get_d_tab 64 (λ k. coefficient_at b (k / 8) (k % 8)) i (pos 0) h)) (coefficient_fits b (i / 8) (i % 8))

pub length_transform : (shift : ℕ) (add : ℤ) (b : List ℤ) → length (transform_of shift add b) ≡ 64
unfolding transform_of
length_transform shift add b = length_rows (forward_columns_of shift (level_shift_of add b))

pub length_forward : (ten : Bool) (level : ℤ) (b : List ℤ) → length (forward_of ten level b) ≡ 64
unfolding forward_of
length_forward ten level b = length_transform (column_shift ten) _ b

pub transform_fits : (shift : ℕ) (add : ℤ) (b : List ℤ) (i : ℕ) → i < 64 → SFits w16 (get_or (transform_of shift add b) i (pos 0))
unfolding transform_of
transform_fits shift add b i h = rows_fits (forward_columns_of shift (level_shift_of add b)) i h

pub forward_fits : (ten : Bool) (level : ℤ) (b : List ℤ) (i : ℕ) → i < 64 → SFits w16 (get_or (forward_of ten level b) i (pos 0))
unfolding forward_of
forward_fits ten level b i h = transform_fits (column_shift ten) _ b i h
