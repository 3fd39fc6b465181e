-- `judge::stream_good`: clean by the scan, or plane by plane.
use Prim.Native.Nat.{◌-◌, ◌≤◌}
use lib.ListN.{length}
use Rattle.judge.specs.Good.{stream_plane}
use Rattle.judge.proofs.Turns.{Turns}
use Rattle.judge.proofs.stream_good.Given as goal

abbrev pub invariant-loop-stride : goal.invariant-loop-stride
invariant-loop-stride l = (l.stride-index ≤ length l.stride-items) × Turns (stream_plane l.dc l.bytes) l.stride-items l.from l.stride-index l.at

abbrev pub decreases-loop-stride : goal.decreases-loop-stride
decreases-loop-stride l = length l.stride-items - l.stride-index
