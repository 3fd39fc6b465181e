-- What a kind of samples must show: that its constants are those of its depth, and that the definitions see its lists sample by sample.
use Rattle.std.specs.Prelude.{◌≡◌, refl, Bool, true, false, ℕ, ℤ, List, [], ◌∷◌, map, pos}
use mathlib.Core.Path.{ap}
use Rattle.sample.specs.Depth.{Depth, eight, ten, is_ten}
use Rattle.sample.specs.Numbers.{row_round, row_shift, col_round, col_corr, col_shift, dequant_shift, column_shift, middle_of, fills_flat}

pub record DepthNumbers (depth : Depth) (row_round' : ℤ) (row_shift' : ℕ) (col_round' : ℤ) (col_corr' : ℤ) (col_shift' : ℕ) (dequant_shift' : ℕ) (column_shift' : ℕ) (middle' : ℤ) (fills_flat' : Bool) : Type 0 where
  pub row_round_is : row_round' ≡ row_round (is_ten depth)
  pub row_shift_is : row_shift' ≡ row_shift (is_ten depth)
  pub col_round_is : col_round' ≡ col_round (is_ten depth)
  pub col_corr_is : col_corr' ≡ col_corr (is_ten depth)
  pub col_shift_is : col_shift' ≡ col_shift (is_ten depth)
  pub dequant_shift_is : dequant_shift' ≡ dequant_shift (is_ten depth)
  pub column_shift_is : column_shift' ≡ column_shift (is_ten depth)
  pub middle_is : middle' ≡ middle_of depth
  pub fills_flat_is : fills_flat' ≡ fills_flat depth

pub eight_numbers : DepthNumbers eight (pos 1024) 11 (pos 32) (pos 31) 6 4 3 (pos 128) true
eight_numbers = record { row_round_is = refl; row_shift_is = refl; col_round_is = refl; col_corr_is = refl; col_shift_is = refl; dequant_shift_is = refl; column_shift_is = refl; middle_is = refl; fills_flat_is = refl }

pub ten_numbers : DepthNumbers ten (pos 2048) 12 (pos 16) (pos 15) 5 2 1 (pos 512) false
ten_numbers = record { row_round_is = refl; row_shift_is = refl; col_round_is = refl; col_corr_is = refl; col_shift_is = refl; dequant_shift_is = refl; column_shift_is = refl; middle_is = refl; fills_flat_is = refl }

pub same_list : (xs : List ℕ) → xs ≡ map (λ x. x) xs
same_list [] = refl
same_list (x ∷ xs) = ap (λ ys. x ∷ ys) (same_list xs)
