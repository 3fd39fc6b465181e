-- The places of a row in pairs.
use Prim.Native.Nat.{ℕ, zero, suc, ◌<◌}
use native.Mathlib.Omega.{arith}
use Rattle.irow.specs.Stages.{paired_place}

pub pair_lt : (k : ℕ) → k < 8 → paired_place k < 8
pair_lt zero h = omega arith
pair_lt (suc zero) h = omega arith
pair_lt (suc (suc zero)) h = omega arith
pair_lt (suc (suc (suc zero))) h = omega arith
pair_lt (suc (suc (suc (suc zero)))) h = omega arith
pair_lt (suc (suc (suc (suc (suc zero))))) h = omega arith
pair_lt (suc (suc (suc (suc (suc (suc zero)))))) h = omega arith
pair_lt (suc (suc (suc (suc (suc (suc (suc zero))))))) h = omega arith
pair_lt (suc (suc (suc (suc (suc (suc (suc (suc k)))))))) h = absurd (omega arith)
