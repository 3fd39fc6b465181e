-- A plane's own DC and AC stream, from its coefficients. Document 01, 'Plane and slice' and 'Calls in a row'.
-- A block is its 64 quantised coefficients in scan order, the DC first.
use Rattle.std.specs.Prelude.{Bool, List, [], ◌∷◌, ◌++◌, map, ℕ, zero, suc, ◌^◌, ℤ, pos, negsuc, ◌-ℤ◌}
use Rattle.scalar.specs.Scalar.{add_of, sra_of}
use Rattle.bits.specs.Bits.{value_code, run_code, zero_step_code, pad_to_byte}
use Rattle.bits.specs.Signed.{code_of}

-- half a step of 2 to the power of the shift, none at shift 0
abbrev pub half_step : ℕ → ℕ
half_step zero = 0
half_step (suc s) = 2 ^ s

-- "With shift s of 1 or more the coded DC is (d + 2^(s-1)) shifted right by s"
unfoldable pub coded_dc : ℕ → ℤ → ℤ
coded_dc s d = sra_of (add_of d (pos (half_step s))) s

-- "the coded DC less that of the block before (the first: less 0)"; before is the coded DC of the block before
unfoldable pub steps_from : ℤ → List ℤ → List ℤ
steps_from before [] = []
steps_from before (e ∷ es) = (e -ℤ before) ∷ steps_from e es

-- "A DC step of 0 is `11`"; any other is a value
unfoldable pub step_code : ℤ → List Bool
step_code (pos zero) = zero_step_code
step_code (pos (suc n)) = value_code (code_of (pos (suc n)))
step_code (negsuc n) = value_code (code_of (negsuc n))

unfoldable pub step_codes : List ℤ → List Bool
step_codes [] = []
step_codes (d ∷ ds) = step_code d ++ step_codes ds

abbrev pub dc_of : List ℤ → ℤ
dc_of [] = pos 0
dc_of (c ∷ cs) = c

abbrev pub with_dc : ℤ → List ℤ → List ℤ
with_dc d [] = []
with_dc d (c ∷ cs) = d ∷ cs

-- "Own DC stream: block by block the code of the coded DC less that of the block before (the first: less 0), then zero bits up to a byte."
unfoldable pub dc_stream : ℕ → List (List ℤ) → List ℕ
dc_stream shift blocks = pad_to_byte (step_codes (steps_from (pos 0) (map (coded_dc shift) (map dc_of blocks))))

-- "each longest row of zeros, across blocks too, is one run, every other coefficient a value"; so many zeros are waiting
unfoldable pub symbol_codes : ℕ → List ℤ → List Bool
symbol_codes waiting [] = run_code waiting
symbol_codes waiting (pos zero ∷ cs) = symbol_codes (suc waiting) cs
symbol_codes waiting (pos (suc n) ∷ cs) = run_code waiting ++ (value_code (code_of (pos (suc n))) ++ symbol_codes 0 cs)
symbol_codes waiting (negsuc n ∷ cs) = run_code waiting ++ (value_code (code_of (negsuc n)) ++ symbol_codes 0 cs)

abbrev pub joined : List (List ℤ) → List ℤ
joined [] = []
joined (b ∷ bs) = b ++ joined bs

-- "Own AC stream: all blocks' 64 places in the Rust's scan order, place 0 taken as zero"
unfoldable pub ac_stream : List (List ℤ) → List ℕ
ac_stream blocks = pad_to_byte (symbol_codes 0 (joined (map (with_dc (pos 0)) blocks)))
