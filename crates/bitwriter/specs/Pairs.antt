-- A run and the value after it as one number. Document 01, 'Bits and symbols'.
use Rattle.std.specs.Prelude.{ℕ, ◌+◌, ◌-◌, ◌*◌, ◌/◌, ◌^◌}
use Rattle.bits.specs.Bits.{bit_length}
use Rattle.bitwriter.specs.declared.PairCode.{PairCode}

-- the run code of n: a one, then n in twice its bit length less one; 0 for no run
abbrev pub run_word : ℕ → ℕ
run_word n = 2 ^ (2 * bit_length n) / 2 + n

abbrev pub run_length : ℕ → ℕ
run_length n = 2 * bit_length n

-- the value code of c is c in so many bits
abbrev pub value_length : ℕ → ℕ
value_length c = 2 * bit_length c - 1

abbrev pub pair_code : ℕ → ℕ → PairCode
pair_code n c = record { bits = run_word n * 2 ^ value_length c + c; length = run_length n + value_length c }
