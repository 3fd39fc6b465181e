-- Part of a plane's row of places: the codes that it puts, and the zeros that wait after it. Document 01, 'Calls in a row':
-- "each longest row of zeros, across blocks too, is one run, every other coefficient a value".
use Rattle.std.specs.Prelude.{Bool, List, [], ◌∷◌, ◌++◌, ℕ, zero, suc, ◌≤◌, ℤ, pos, negsuc, nat_abs}
use Rattle.scalar.specs.Tab.{lane}
use Rattle.bits.specs.Bits.{value_code, run_code}
use Rattle.bits.specs.Signed.{code_of}

-- so many zeros are waiting before the first place
unfoldable pub places_codes : ℕ → List ℤ → List Bool
places_codes waiting [] = []
places_codes waiting (pos zero ∷ cs) = places_codes (suc waiting) cs
places_codes waiting (pos (suc n) ∷ cs) = (run_code waiting ++ value_code (code_of (pos (suc n)))) ++ places_codes 0 cs
places_codes waiting (negsuc n ∷ cs) = (run_code waiting ++ value_code (code_of (negsuc n))) ++ places_codes 0 cs

-- after the last place
unfoldable pub waiting_after : ℕ → List ℤ → ℕ
waiting_after waiting [] = waiting
waiting_after waiting (pos zero ∷ cs) = waiting_after (suc waiting) cs
waiting_after waiting (pos (suc n) ∷ cs) = waiting_after 0 cs
waiting_after waiting (negsuc n ∷ cs) = waiting_after 0 cs

-- "a quantised coefficient lies between -2,048 and 2,048"
abbrev pub Small : List ℤ → Type 0
Small z = (i : ℕ) → nat_abs (lane z i) ≤ 2048
