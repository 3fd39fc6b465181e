use Rattle.std.proofs.Common.{◌≡◌, ℕ, ◌+◌, ◌*◌, ◌<◌, length}
use Rattle.lanes.specs.rows.Block.{row_of}
use Rattle.lanes.proofs.rows.each_of_two.Given as goal

abbrev pub invariant-loop-h : goal.invariant-loop-h
invariant-loop-h g l = (length l.b ≡ 64) × ((j : ℕ) → j < 2 * l.p + l.h → goal.F-post g l.f j (row_of l.b j))

abbrev pub invariant-loop-p : goal.invariant-loop-p
invariant-loop-p g l = (length l.b ≡ 64) × ((j : ℕ) → j < 2 * l.p → goal.F-post g l.f j (row_of l.b j))
