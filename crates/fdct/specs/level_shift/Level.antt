-- The level shift of a block.
use Rattle.std.specs.Prelude.{List, ℕ, ℤ}
use Rattle.scalar.specs.Scalar.{adds_of}
use Rattle.scalar.specs.Tab.{tab}
use Rattle.frow.specs.steps.Sides.{at}

-- the level shift
abbrev pub level_at : ℤ → List ℤ → ℕ → ℤ
level_at add b i = adds_of (at b i) add

unfoldable pub level_shift_of : ℤ → List ℤ → List ℤ
level_shift_of add b = tab 64 (level_at add b)
