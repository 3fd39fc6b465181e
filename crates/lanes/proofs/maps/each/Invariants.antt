use Rattle.std.proofs.Common.{ℕ, ◌<◌, slice_index_or}
use Rattle.lanes.proofs.maps.each.Given as goal

abbrev pub invariant-loop-k : goal.invariant-loop-k
invariant-loop-k g l = (j : ℕ) (r : _) → j < l.k → goal.F-post g l.f j (slice_index_or l.r j r)
