-- The sums of the row pass: a half of each row from the pairs of products m0 to m3 of its numbers, four numbers a row.
use Rattle.std.specs.Prelude.{Bool, true, false, List, ℕ, ◌+◌, ◌-◌, ◌*◌, ◌/◌, ◌%◌, ltb, ℤ}
use Rattle.scalar.specs.Scalar.{sat16, sra_of, add32_of, sub32_of}
use Rattle.scalar.specs.Tab.{tab, lane}

-- the even products a and b, rounded
unfoldable pub even_part_of : ℤ → ℤ → ℤ → ℤ
even_part_of round a b = add32_of (add32_of a round) b

-- the odd ones added in the left half, subtracted in the right
abbrev pub joined_of : Bool → ℤ → ℤ → ℤ
joined_of false e o = add32_of e o
joined_of true e o = sub32_of e o

-- a number of a half, from its even products a and b and its odd ones c and d
unfoldable pub inverse_lane_of : Bool → ℤ → ℕ → ℤ → ℤ → ℤ → ℤ → ℤ
inverse_lane_of right round shift a b c d = sat16 (sra_of (joined_of right (even_part_of round a b) (add32_of c d)) shift)

unfoldable pub inverse_half_of : Bool → ℤ → ℕ → List ℤ → List ℤ → List ℤ → List ℤ → List ℤ
inverse_half_of right round shift m0 m1 m2 m3 = tab 32 (λ i. inverse_lane_of right round shift (lane m0 i) (lane m1 i) (lane m2 i) (lane m3 i))

-- the halves of each row side by side
abbrev pub pick_z : Bool → ℤ → ℤ → ℤ
pick_z true x y = x
pick_z false x y = y

unfoldable pub side_of : List ℤ → List ℤ → List ℤ
side_of lo hi = tab 64 (λ i. pick_z (ltb (i % 8) 4) (lane lo (4 * (i / 8) + i % 8)) (lane hi (4 * (i / 8) + (i % 8 - 4))))

-- the rows, both halves of each
abbrev pub rows_from : ℤ → ℕ → List ℤ → List ℤ → List ℤ → List ℤ → List ℤ
rows_from round shift m0 m1 m2 m3 = side_of (inverse_half_of false round shift m0 m1 m2 m3) (inverse_half_of true round shift m0 m1 m2 m3)
