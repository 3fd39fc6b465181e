-- The row pass of the inverse transform. Document 01: sums of eight products, "the four odd ones added or subtracted", "rounded, shifted and saturated; the 32-bit sums wrap".
use Rattle.std.specs.Prelude.{List, [], ◌∷◌, ℕ, ◌+◌, ◌-◌, ◌*◌, ◌/◌, ◌%◌, ltb, ℤ, pos, negsuc, ◌+ℤ◌, ◌-ℤ◌, ◌*ℤ◌, get_or}
use Rattle.scalar.specs.Scalar.{sat16, wrap32, sra_of}
use Rattle.scalar.specs.Tab.{tab}
pub use Rattle.scalar.specs.Tab.{lane}
pub use Rattle.irow.specs.sums.Sums.{pick_z}

-- TAB_I_04 of tables.rs
unfoldable pub tab04 : List ℤ
tab04 =
    pos 16384 ∷ pos 21407 ∷ pos 16384 ∷ pos 8867 ∷ pos 16384 ∷ negsuc 8866 ∷ pos 16384 ∷ negsuc 21406 ∷
    pos 16384 ∷ pos 8867 ∷ negsuc 16383 ∷ negsuc 21406 ∷ negsuc 16383 ∷ pos 21407 ∷ pos 16384 ∷ negsuc 8866 ∷
    pos 22725 ∷ pos 19266 ∷ pos 19266 ∷ negsuc 4519 ∷ pos 12873 ∷ negsuc 22724 ∷ pos 4520 ∷ negsuc 12872 ∷
    pos 12873 ∷ pos 4520 ∷ negsuc 22724 ∷ negsuc 12872 ∷ pos 4520 ∷ pos 19266 ∷ pos 19266 ∷ negsuc 22724 ∷ []

-- TAB_I_17 of tables.rs
unfoldable pub tab17 : List ℤ
tab17 =
    pos 22725 ∷ pos 29692 ∷ pos 22725 ∷ pos 12299 ∷ pos 22725 ∷ negsuc 12298 ∷ pos 22725 ∷ negsuc 29691 ∷
    pos 22725 ∷ pos 12299 ∷ negsuc 22724 ∷ negsuc 29691 ∷ negsuc 22724 ∷ pos 29692 ∷ pos 22725 ∷ negsuc 12298 ∷
    pos 31521 ∷ pos 26722 ∷ pos 26722 ∷ negsuc 6269 ∷ pos 17855 ∷ negsuc 31520 ∷ pos 6270 ∷ negsuc 17854 ∷
    pos 17855 ∷ pos 6270 ∷ negsuc 31520 ∷ negsuc 17854 ∷ pos 6270 ∷ pos 26722 ∷ pos 26722 ∷ negsuc 31520 ∷ []

-- TAB_I_26 of tables.rs
unfoldable pub tab26 : List ℤ
tab26 =
    pos 21407 ∷ pos 27969 ∷ pos 21407 ∷ pos 11585 ∷ pos 21407 ∷ negsuc 11584 ∷ pos 21407 ∷ negsuc 27968 ∷
    pos 21407 ∷ pos 11585 ∷ negsuc 21406 ∷ negsuc 27968 ∷ negsuc 21406 ∷ pos 27969 ∷ pos 21407 ∷ negsuc 11584 ∷
    pos 29692 ∷ pos 25172 ∷ pos 25172 ∷ negsuc 5905 ∷ pos 16819 ∷ negsuc 29691 ∷ pos 5906 ∷ negsuc 16818 ∷
    pos 16819 ∷ pos 5906 ∷ negsuc 29691 ∷ negsuc 16818 ∷ pos 5906 ∷ pos 25172 ∷ pos 25172 ∷ negsuc 29691 ∷ []

-- TAB_I_35 of tables.rs
unfoldable pub tab35 : List ℤ
tab35 =
    pos 19266 ∷ pos 25172 ∷ pos 19266 ∷ pos 10426 ∷ pos 19266 ∷ negsuc 10425 ∷ pos 19266 ∷ negsuc 25171 ∷
    pos 19266 ∷ pos 10426 ∷ negsuc 19265 ∷ negsuc 25171 ∷ negsuc 19265 ∷ pos 25172 ∷ pos 19266 ∷ negsuc 10425 ∷
    pos 26722 ∷ pos 22654 ∷ pos 22654 ∷ negsuc 5314 ∷ pos 15137 ∷ negsuc 26721 ∷ pos 5315 ∷ negsuc 15136 ∷
    pos 15137 ∷ pos 5315 ∷ negsuc 26721 ∷ negsuc 15136 ∷ pos 5315 ∷ pos 22654 ∷ pos 22654 ∷ negsuc 26721 ∷ []

-- the table of row r
abbrev pub row_tab : ℕ → List ℤ
row_tab r = get_or (tab04 ∷ tab17 ∷ tab26 ∷ tab35 ∷ tab04 ∷ tab35 ∷ tab26 ∷ tab17 ∷ []) r []

-- two of the eight products of output c: the row's numbers k and k + 2, by the table's group g
abbrev pub pair_sum : List ℤ → ℕ → ℕ → ℕ → ℕ → ℤ
pair_sum a r k g c = lane a (8 * r + k) *ℤ lane (row_tab r) (8 * g + 2 * c) +ℤ lane a (8 * r + (k + 2)) *ℤ lane (row_tab r) (8 * g + (2 * c + 1))

-- the products of the numbers 0, 2, 4 and 6, and of 1, 3, 5 and 7
abbrev pub even_sum : List ℤ → ℕ → ℕ → ℤ
even_sum a r c = pair_sum a r 0 0 c +ℤ pair_sum a r 4 1 c

abbrev pub odd_sum : List ℤ → ℕ → ℕ → ℤ
odd_sum a r c = pair_sum a r 1 2 c +ℤ pair_sum a r 5 3 c

-- a sum of 32 bits that wraps, rounded, shifted and saturated
abbrev pub rounded_sum : ℤ → ℕ → ℤ → ℤ
rounded_sum round shift s = sat16 (sra_of (wrap32 (s +ℤ round)) shift)

-- number c of row r after the pass: the odd products are added in the left half, and in the right half, which mirrors it, subtracted
unfoldable pub row_lane : ℤ → ℕ → List ℤ → ℕ → ℕ → ℤ
row_lane round shift a r c =
    pick_z (ltb c 4) (rounded_sum round shift (even_sum a r c +ℤ odd_sum a r c)) (rounded_sum round shift (even_sum a r (7 - c) -ℤ odd_sum a r (7 - c)))

-- the block's 64 numbers after the pass
unfoldable pub inverse_rows_of : ℤ → ℕ → List ℤ → List ℤ
inverse_rows_of round shift a = tab 64 (λ i. row_lane round shift a (i / 8) (i % 8))
