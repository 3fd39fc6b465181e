-- What a number brought to fewer bits is.
use Rattle.std.specs.Prelude.{ℕ, zero, suc, min, ◌-◌, ◌%◌, ℤ, pos, negsuc}
use Rattle.std.specs.Int.{w16, w32}
use Rattle.std.proofs.Common.{to_z}

-- the number of 16 bits nearest to z
unfoldable pub sat16 : ℤ → ℤ
sat16 (pos n) = pos (min n 32767)
sat16 (negsuc n) = negsuc (min n 32767)

-- z modulo m, from 0 to m - 1
abbrev pub mod_z : ℤ → ℕ → ℕ
mod_z (pos n) m = n % m
mod_z (negsuc n) m = m - suc (n % m)

-- the low 16 bits of z, read as signed
unfoldable pub wrap16 : ℤ → ℤ
wrap16 z = to_z w16 (mod_z z 65536)

-- the low 32 bits of z, read as signed
unfoldable pub wrap32 : ℤ → ℤ
wrap32 z = to_z w32 (mod_z z 4294967296)

-- _mm_packus_epi16: the number of 8 bits nearest to z
unfoldable pub packus_of : ℤ → ℕ
packus_of (pos n) = min n 255
packus_of (negsuc n) = zero
