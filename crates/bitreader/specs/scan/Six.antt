-- Six zero bytes in a row.
use Rattle.std.specs.Prelude.{Bool, true, false, not, ◌&&◌, List, [], ◌∷◌, ℕ, zero, suc, eqb}

-- the row begins with n zero bytes
unfoldable pub zero_bytes : ℕ → List ℕ → Bool
zero_bytes zero l = true
zero_bytes (suc n) [] = false
zero_bytes (suc n) (b ∷ l) = eqb b 0 && zero_bytes n l

-- nowhere in the row do six zero bytes stand together
unfoldable pub no_six_zeros : List ℕ → Bool
unfolding zero_bytes
no_six_zeros [] = true
no_six_zeros (b ∷ l) = not (zero_bytes 6 (b ∷ l)) && no_six_zeros l
