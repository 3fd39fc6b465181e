-- A signed number and its code. Document 01, 'Bits and symbols'.
use Rattle.std.specs.Prelude.{Bool, true, false, ℕ, zero, suc, ◌+◌, ◌*◌, ◌/◌, ℤ, pos, negsuc, neg_ℤ}
use Rattle.scalar.specs.Scalar.{wrap16}
use Rattle.bits.specs.Bits.{odd}

-- "A signed v above 0 has code 2v + 1, else -2v."
unfoldable pub code_of : ℤ → ℕ
code_of (pos zero) = 0
code_of (pos (suc n)) = 2 * suc n + 1
code_of (negsuc n) = 2 * suc n

-- an odd code is above 0
abbrev pub by_sign : Bool → ℕ → ℤ
by_sign true h = pos h
by_sign false h = neg_ℤ (pos h)

-- the number of a code. "The signed value is cut to 16 bits, wrapping."
unfoldable pub signed_of : ℕ → ℤ
signed_of c = wrap16 (by_sign (odd c) (c / 2))
