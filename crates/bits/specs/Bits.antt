-- Bits and codes, highest bit first, and the bytes that they are packed in. Document 01, 'Bits and symbols'.
use Rattle.std.specs.Prelude.{Bool, true, false, List, [], ◌∷◌, ◌++◌, ℕ, zero, suc, ◌+◌, ◌-◌, ◌*◌, ◌/◌, ◌%◌, ◌^◌, eqb, length, get_or, replicate}

-- a bit as a number
abbrev pub bit : Bool → ℕ
bit true = 1
bit false = 0

abbrev pub odd : ℕ → Bool
odd n = eqb (n % 2) 1

-- the k low bits of n
unfoldable pub bits_of : ℕ → ℕ → List Bool
bits_of zero n = []
bits_of (suc k) n = odd (n / 2 ^ k) ∷ bits_of k n

-- the bit length: how many binary digits n has (none for 0). Halving n times is enough
unfoldable pub halvings : ℕ → ℕ → ℕ
halvings zero n = zero
halvings (suc f) zero = zero
halvings (suc f) (suc n) = suc (halvings f (suc n / 2))

unfoldable pub bit_length : ℕ → ℕ
bit_length n = halvings n n

-- "b - 1 zeros, then the b bits"
unfoldable pub spread : ℕ → ℕ → List Bool
spread zero c = []
spread (suc b) c = replicate b false ++ bits_of (suc b) c

-- "A value code (2 or more, bit length b) is b - 1 zeros, then the b bits."
unfoldable pub value_code : ℕ → List Bool
value_code c = spread (bit_length c) c

-- "A run n of zeros (1 or more, bit length b) is a one, b - 1 zeros, the b bits." No run, no bits.
unfoldable pub run_code : ℕ → List Bool
run_code zero = []
run_code (suc n) = true ∷ spread (bit_length (suc n)) (suc n)

-- "A DC step of 0 is `11`."
abbrev pub zero_step_code : List Bool
zero_step_code = true ∷ true ∷ []

-- a bit at every place
abbrev pub Stream : Type 0
Stream = ℕ → Bool

-- the bits of a row of bytes. "Past the end every bit is one."
unfoldable pub bit_at : List ℕ → Stream
bit_at l i = odd (get_or l (i / 8) 255 / 2 ^ (7 - i % 8))

-- the k bits at p as a number, after the digits that acc is
unfoldable pub num : ℕ → ℕ → Stream → ℕ → ℕ
num zero acc s p = acc
num (suc k) acc s p = num k (acc * 2 + bit (s p)) s (suc p)

-- whole bytes for so many bits
abbrev pub bytes_for : ℕ → ℕ
bytes_for n = (n + 7) / 8

-- n bytes of a stream, from the bit p on
unfoldable pub to_bytes : ℕ → Stream → ℕ → List ℕ
to_bytes zero s p = []
to_bytes (suc n) s p = num 8 0 s p ∷ to_bytes n s (p + 8)

-- "then zero bits up to a byte"
unfoldable pub pad_to_byte : List Bool → List ℕ
pad_to_byte bs = to_bytes (bytes_for (length bs)) (λ i. get_or bs i false) 0
