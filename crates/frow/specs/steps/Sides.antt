-- Places of a block, and sums and differences of opposite lanes of a row.
use Rattle.std.specs.Prelude.{Bool, true, false, List, ℕ, ◌+◌, ◌-◌, ◌*◌, ◌%◌, ℤ, pos, eqb, get_or}
use Rattle.scalar.specs.Scalar.{adds_of, subs_of}

-- what stands at a place of a block
abbrev pub at : List ℤ → ℕ → ℤ
at b i = get_or b i (pos 0)

abbrev pub add_or_sub : Bool → ℤ → ℤ → ℤ
add_or_sub true a b = adds_of a b
add_or_sub false a b = subs_of a b

-- lane k of row r and its opposite: added for the even coefficients, subtracted for the odd ones
unfoldable pub side_at : List ℤ → ℕ → ℕ → ℕ → ℤ
side_at b r u k = add_or_sub (eqb (u % 2) 0) (at b (8 * r + k)) (at b (8 * r + (7 - k)))
