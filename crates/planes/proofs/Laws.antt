-- Corners, and the rows from a corner on.
use mathlib.Core.Path.{◌≡◌}
use mathlib.Core.List.{List}
use Prim.Native.Nat.{ℕ, zero, suc, ◌+◌, ◌-◌, ◌*◌, ◌/◌, ◌≤◌, ◌<◌}
use native.Mathlib.Omega.{arith}
use lib.ListN.{length, take, drop, length-drop}
use lib.Seq.{take_all}

pub corner_fits : (j i stride : ℕ) → j < 2 → i < stride / 8 → 8 * j * stride + 8 * i + (7 * stride + 8) ≤ 16 * stride
corner_fits zero i stride h l = omega arith
corner_fits (suc zero) i stride h l = omega arith
corner_fits (suc (suc j)) i stride h l = absurd (omega arith)

-- a part up to the end
pub part_is : {A : Type 0} (l : List A) (c : ℕ) → take (length l - c) (drop c l) ≡ drop c l
part_is l c = take_all (length l - c) (drop c l) (omega (arith, length-drop c l))

pub part_long : {A : Type 0} (l : List A) (c stride : ℕ) → c + (7 * stride + 8) ≤ length l → 7 * stride + 8 ≤ length (drop c l)
part_long l c stride h = omega (arith, length-drop c l)
