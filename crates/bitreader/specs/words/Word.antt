-- The next bits of a stream at the top of a word of 64 bits.
use Rattle.std.specs.Prelude.{◌≡◌, List, Option, Some, None, ℕ, ◌+◌, ◌-◌, ◌*◌, ◌^◌}
use Rattle.bits.specs.Bits.{bit_at, num}
use Rattle.bits.specs.Read.{Tail, bad_tail, number}

-- w has the n bits of s at p as its highest, and zeros below them
abbrev pub Holds : List ℕ → ℕ → ℕ → ℕ → Type 0
Holds s p n w = w ≡ num n 0 (bit_at s) p * 2 ^ (64 - n)

-- eight bytes as a number, the first the highest
unfoldable pub eight : ℕ → ℕ → ℕ → ℕ → ℕ → ℕ → ℕ → ℕ → ℕ
eight a b c d e f g h = a * 2 ^ 56 + (b * 2 ^ 48 + (c * 2 ^ 40 + (d * 2 ^ 32 + (e * 2 ^ 24 + (f * 2 ^ 16 + (g * 2 ^ 8 + h))))))

-- the number of a tail; none for a bad one
abbrev pub number_of : Tail → Option ℕ
number_of bad_tail = None
number_of (number n q) = Some n
