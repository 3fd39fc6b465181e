-- The row and the column of a place of a block.
use mathlib.Core.Path.{◌≡◌}
use Prim.Native.Nat.{ℕ, ◌+◌, ◌*◌, ◌/◌, ◌%◌, ◌<◌}
use native.Mathlib.Omega.{arith}

pub row_of_lem : (r k : ℕ) → k < 8 → (8 * r + k) / 8 ≡ r
row_of_lem r k h = omega arith

pub col_of : (r k : ℕ) → k < 8 → (8 * r + k) % 8 ≡ k
col_of r k h = omega arith
