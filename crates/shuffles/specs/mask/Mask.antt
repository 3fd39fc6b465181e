-- Which numbers of a block are not 0.
use Rattle.std.specs.Prelude.{List, [], ◌∷◌, ℕ, zero, suc, ◌+◌, ◌*◌, ◌%◌, ◌^◌, ◌≤◌, ◌<◌, ℤ, pos, negsuc, get_or}
use Rattle.scalar.specs.Tab.{tab, lane}

-- 1 where a number is not 0
unfoldable pub flag : ℤ → ℕ
flag (pos zero) = 0
flag (pos (suc n)) = 1
flag (negsuc n) = 1

-- bit k is set when number k is not 0 (_mm_packs_epi16, _mm_cmpeq_epi8 and _mm_movemask_epi8 of a coded block)
unfoldable pub nonzero_mask : List ℤ → ℕ
nonzero_mask [] = 0
nonzero_mask (x ∷ xs) = flag x + 2 * nonzero_mask xs

-- a byte for each number of a block: bit k % 8 where number k is not 0
unfoldable pub weighed : List ℤ → List ℕ
weighed z = tab 64 (λ k. flag (lane z k) * 2 ^ (k % 8))

-- no byte has more than its bit
abbrev pub Light : List ℕ → Type 0
Light f = (k : ℕ) → k < 64 → get_or f k 0 ≤ 2 ^ (k % 8)

-- the sum of eight bytes from p on, and four such sums put together
abbrev pub eight_from : List ℕ → ℕ → ℕ
eight_from f p = get_or f p 0 + get_or f (p + 1) 0 + get_or f (p + 2) 0 + get_or f (p + 3) 0 + get_or f (p + 4) 0 + get_or f (p + 5) 0 + get_or f (p + 6) 0 + get_or f (p + 7) 0

abbrev pub half_from : List ℕ → ℕ → ℕ
half_from f p = eight_from f p + 256 * eight_from f (p + 8) + 65536 * eight_from f (p + 16) + 16777216 * eight_from f (p + 24)
