-- Which lanes imm chooses, after the Intel Intrinsics Guide.
use Rattle.std.specs.Prelude.{cond, ℕ, ◌+◌, ◌*◌, ◌-◌, ◌/◌, ◌%◌, ◌^◌, ltb}

-- the k-th pair of bits of imm, from the low end: which lane goes to place k
unfoldable pub selector : ℕ → ℕ → ℕ
selector imm k = imm / 2 ^ (2 * k) % 4

-- where the 16-bit half k of a vector that _mm_shuffle_epi32 permutes comes from: the same half of the chosen 32-bit lane
unfoldable pub pair_place : ℕ → ℕ → ℕ
pair_place imm k = 2 * selector imm (k / 2) + k % 2

-- the low four lanes are permuted, the high four stay
unfoldable pub low_place : ℕ → ℕ → ℕ
low_place imm k = cond (ltb k 4) (selector imm k) k

-- the high four lanes are permuted, the low four stay
unfoldable pub high_place : ℕ → ℕ → ℕ
high_place imm k = cond (ltb k 4) k (4 + selector imm (k - 4))
