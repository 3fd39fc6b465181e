use Rattle.std.proofs.Common.{◌≡◌, ℕ, ◌<◌, length}
use Rattle.lanes.specs.rows.Block.{row_of}
use Rattle.lanes.proofs.rows.each_row.Given as goal

abbrev pub invariant-loop-r : goal.invariant-loop-r
invariant-loop-r g l = (length l.b ≡ 64) × ((j : ℕ) → j < l.r → goal.F-post g l.f j (row_of l.b j))
