-- The forward transform's row pass. Document 01, 'Lanes and the block':
-- "Promises describe the row passes as sums of four products (forward) .., rounded, shifted and saturated; the 32-bit sums wrap."
use Rattle.std.specs.Prelude.{List, [], ◌∷◌, ℕ, zero, suc, ◌+◌, ◌-◌, ◌*◌, ◌/◌, ◌%◌, ℤ, pos, ◌+ℤ◌, ◌*ℤ◌, get_or}
use Rattle.std.specs.Int.{w16}
use Rattle.std.proofs.Common.{to_z}
use Rattle.scalar.specs.Scalar.{sat16, wrap32, sra_of}
use Rattle.scalar.specs.Tab.{tab}
pub use Rattle.frow.specs.steps.Sides.{at, add_or_sub}
unfoldable pub use Rattle.frow.specs.steps.Sides.{side_at}

-- FTAB1 to FTAB4 of tables.rs
unfoldable pub ftab1 : List ℕ
ftab1 =
    16384 ∷ 16384 ∷ 22725 ∷ 19266 ∷ 56669 ∷ 44129 ∷ 42811 ∷ 52663 ∷
    16384 ∷ 16384 ∷ 12873 ∷ 4520 ∷ 21407 ∷ 8867 ∷ 19266 ∷ 61016 ∷
    16384 ∷ 49152 ∷ 12873 ∷ 42811 ∷ 21407 ∷ 56669 ∷ 19266 ∷ 42811 ∷
    49152 ∷ 16384 ∷ 4520 ∷ 19266 ∷ 8867 ∷ 44129 ∷ 4520 ∷ 52663 ∷ []

unfoldable pub ftab2 : List ℕ
ftab2 =
    22725 ∷ 22725 ∷ 31521 ∷ 26722 ∷ 53237 ∷ 35844 ∷ 34015 ∷ 47681 ∷
    22725 ∷ 22725 ∷ 17855 ∷ 6270 ∷ 29692 ∷ 12299 ∷ 26722 ∷ 59266 ∷
    22725 ∷ 42811 ∷ 17855 ∷ 34015 ∷ 29692 ∷ 53237 ∷ 26722 ∷ 34015 ∷
    42811 ∷ 22725 ∷ 6270 ∷ 26722 ∷ 12299 ∷ 35844 ∷ 6270 ∷ 47681 ∷ []

unfoldable pub ftab3 : List ℕ
ftab3 =
    21407 ∷ 21407 ∷ 29692 ∷ 25172 ∷ 53951 ∷ 37567 ∷ 35844 ∷ 48717 ∷
    21407 ∷ 21407 ∷ 16819 ∷ 5906 ∷ 27969 ∷ 11585 ∷ 25172 ∷ 59630 ∷
    21407 ∷ 44129 ∷ 16819 ∷ 35844 ∷ 27969 ∷ 53951 ∷ 25172 ∷ 35844 ∷
    44129 ∷ 21407 ∷ 5906 ∷ 25172 ∷ 11585 ∷ 37567 ∷ 5906 ∷ 48717 ∷ []

unfoldable pub ftab4 : List ℕ
ftab4 =
    19266 ∷ 19266 ∷ 26722 ∷ 22654 ∷ 55110 ∷ 40364 ∷ 38814 ∷ 50399 ∷
    19266 ∷ 19266 ∷ 15137 ∷ 5315 ∷ 25172 ∷ 10426 ∷ 22654 ∷ 60221 ∷
    19266 ∷ 46270 ∷ 15137 ∷ 38814 ∷ 25172 ∷ 55110 ∷ 22654 ∷ 38814 ∷
    46270 ∷ 19266 ∷ 5315 ∷ 22654 ∷ 10426 ∷ 40364 ∷ 5315 ∷ 50399 ∷ []

-- the table of each row
abbrev pub row_table : ℕ → List ℕ
row_table zero = ftab1
row_table (suc zero) = ftab2
row_table (suc (suc zero)) = ftab3
row_table (suc (suc (suc zero))) = ftab4
row_table (suc (suc (suc (suc zero)))) = ftab1
row_table (suc (suc (suc (suc (suc zero))))) = ftab4
row_table (suc (suc (suc (suc (suc (suc zero)))))) = ftab3
row_table (suc (suc (suc (suc (suc (suc (suc r))))))) = ftab2

-- entry j of the table of row r: 16 bits, read as signed
unfoldable pub table_at : ℕ → ℕ → ℤ
table_at r j = to_z w16 (get_or (row_table r) j 0)

-- a sum of four products, rounded, shifted by 16 and saturated; the 32-bit sum wraps
unfoldable pub dot_of : ℤ → ℤ → ℤ → ℤ → ℤ → ℤ → ℤ → ℤ → ℤ
dot_of x0 c0 x1 c1 x2 c2 x3 c3 = sat16 (sra_of (wrap32 (x0 *ℤ c0 +ℤ x1 *ℤ c1 +ℤ x2 *ℤ c2 +ℤ x3 *ℤ c3 +ℤ pos 32768)) 16)

-- where the table has the four numbers of coefficient u: at this entry, the next, the eighth and the ninth after it;
-- the first two are for the lanes near u, the others for the rest
abbrev pub entry_of : ℕ → ℕ
entry_of u = 16 * (u / 4) + 2 * (u % 4)

abbrev pub near_of : ℕ → ℕ
near_of u = 2 * (u % 4 / 2)

abbrev pub far_of : ℕ → ℕ
far_of u = 2 - near_of u

-- coefficient u of row r
unfoldable pub coefficient_at : List ℤ → ℕ → ℕ → ℤ
coefficient_at b r u =
    dot_of
    (side_at b r u (near_of u))
    (table_at r (entry_of u))
    (side_at b r u (near_of u + 1))
    (table_at r (entry_of u + 1))
    (side_at b r u (far_of u))
    (table_at r (entry_of u + 8))
    (side_at b r u (far_of u + 1))
    (table_at r (entry_of u + 9))

-- the row pass of a block
unfoldable pub forward_rows_of : List ℤ → List ℤ
forward_rows_of b = tab 64 (λ i. coefficient_at b (i / 8) (i % 8))
