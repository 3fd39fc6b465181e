-- Document 01's entries on bits and symbols, on the definitions.
use mathlib.Core.Path.{◌≡◌, refl}
use mathlib.Core.Bool.{true, false}
use mathlib.Core.List.{[], ◌∷◌, ◌++◌}
use lib.IntN.{pos, negsuc}
use lib.ListN.{replicate}
use Rattle.scalar.specs.Scalar.{wrap16}
use Rattle.bits.specs.Bits.{bits_of, halvings, bit_length, spread, value_code, run_code, num, bit_at, to_bytes, pad_to_byte}
use Rattle.bits.specs.Signed.{code_of, signed_of}
use Rattle.bits.specs.Read.{zeros, tail_at, read_tail, run, value, read_symbol, bad_dc, zero_step, step, read_dc}

-- "1 has code 3, -1 code 2, 32767 code 65535, -32768 code 65536." And 0 has code 0.
codes : (code_of (pos 1) ∷ code_of (negsuc 0) ∷ code_of (pos 32767) ∷ code_of (negsuc 32767) ∷ code_of (pos 0) ∷ []) ≡ 3 ∷ 2 ∷ 65535 ∷ 65536 ∷ 0 ∷ []
unfolding code_of
codes = refl

-- "Code 65537 reads as -32768."
cut : signed_of 65537 ≡ negsuc 32767
unfolding signed_of wrap16
cut = refl

-- "Run 1 then value -1 is `11010`."
run_then_value : run_code 1 ++ value_code (code_of (negsuc 0)) ≡ true ∷ true ∷ false ∷ true ∷ false ∷ []
unfolding run_code value_code spread bit_length halvings bits_of code_of
run_then_value = refl

-- and reads as such
read_run : read_symbol (bit_at (0xD0 ∷ [])) 0 ≡ run 1 2
unfolding read_symbol read_tail tail_at zeros num bit_at
read_run = refl

read_value : read_symbol (bit_at (0xD0 ∷ [])) 2 ≡ value 2 5
unfolding read_symbol read_tail tail_at zeros num bit_at
read_value = refl

-- "Bytes 00 six times then 01, read as DC, have z = 54: read."
z54 : read_dc (bit_at (replicate 6 0 ++ (1 ∷ []))) 0 ≡ step 72057594037927935 111
unfolding read_dc read_tail tail_at zeros num bit_at
z54 = refl

-- "00 seven times has z = 55: refused."
z55 : read_dc (bit_at (replicate 7 0)) 0 ≡ bad_dc
unfolding read_dc read_tail tail_at zeros num bit_at
z55 = refl

-- "A DC code whose first bit is one is a zero step, its second bit ignored."
second_bit : read_dc (bit_at (0x80 ∷ [])) 0 ≡ zero_step 2
unfolding read_dc read_tail tail_at zeros num bit_at
second_bit = refl

-- "then zero bits up to a byte"
padded : pad_to_byte (run_code 1 ++ value_code 2) ≡ 0xD0 ∷ []
unfolding pad_to_byte to_bytes num run_code value_code spread bit_length halvings bits_of
padded = refl
