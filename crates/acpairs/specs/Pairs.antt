-- What ten bits hold: at most two whole symbols, as one number. By the definition of reading itself.
use Rattle.std.specs.Prelude.{◌≡◌, Bool, true, false, List, ℕ, suc, ◌+◌, ◌-◌, ◌*◌, ◌/◌, ◌%◌, ◌^◌, ◌<◌, leb, get_or}
use Rattle.bits.specs.Bits.{Stream, odd}
use Rattle.bits.specs.Read.{Symbol, bad_symbol, run, value, read_symbol}

-- the ten bits of k, highest first
unfoldable pub ten_bits : ℕ → Stream
ten_bits k i = odd (k / 2 ^ (9 - i))

abbrev pub five : Bool → ℕ → ℕ
five true h = h
five false h = (32 - h) % 32

abbrev pub pick : Bool → ℕ → ℕ → ℕ
pick true a b = a
pick false a b = b

abbrev pub pack : ℕ → ℕ → ℕ → ℕ → ℕ → ℕ
pack n l p v2 v1 = n + (l * 2 ^ 8 + (p * 2 ^ 16 + (v2 * 2 ^ 22 + v1 * 2 ^ 27)))

abbrev pub none : ℕ
none = 64 * 2 ^ 8

-- the second symbol, behind p places of the first, whose value is v1 and which alone would be `one`
abbrev pub second : Symbol → ℕ → ℕ → ℕ → ℕ
second bad_symbol p v1 one = one
second (run n q) p v1 one = pick (leb q 10) (pack q p (p + n) 0 v1) one
second (value c q) p v1 one = pick (leb q 10) (pack q p (suc p) (five (odd c) (c / 2)) v1) one

abbrev pub first : ℕ → Symbol → ℕ
first k bad_symbol = none
first k (run n q) = pick (leb q 10) (second (read_symbol (ten_bits k) q) n 0 (pack q 0 n 0 0)) none
first k (value c q) = pick (leb q 10) (second (read_symbol (ten_bits k) q) 1 (five (odd c) (c / 2)) (pack q 0 1 (five (odd c) (c / 2)) (five (odd c) (c / 2)))) none

unfoldable pub look_of : ℕ → ℕ
look_of k = first k (read_symbol (ten_bits k) 0)

-- a table of all
abbrev pub Looks : List ℕ → Type 0
Looks t = (k : ℕ) → k < 1024 → get_or t k 0 ≡ look_of k
