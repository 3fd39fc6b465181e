-- A plane's blocks and its level. Document 01, 'Plane and slice'.
use Rattle.std.specs.Prelude.{◌||◌, cond, ℕ, ◌*◌, ◌/◌, ℤ, pos, eqb}
use Rattle.calls.specs.Arguments.{Depth}
pub use Rattle.sample.specs.Numbers.{middle_of}

-- 8 by 8 samples a block: the blocks side by side, and those of a plane's 16 rows
abbrev pub columns_of : ℕ → ℕ
columns_of stride = stride / 8

abbrev pub blocks_of : ℕ → ℕ
blocks_of stride = 2 * columns_of stride

-- "Place 0 and 3 take level 128 (8-bit) or 512 (10-bit), places 1 and 2 take 0."
abbrev pub level : Depth → ℕ → ℤ
level depth place = cond (eqb place 0 || eqb place 3) (middle_of depth) (pos 0)
