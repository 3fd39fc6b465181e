-- `parser::streams::walk`: what is still to be walked from here gives what the whole walk gives.
use mathlib.Core.Path.{◌≡◌}
use Prim.Native.Nat.{◌≤◌, ◌-◌}
use lib.ListN.{length}
use Rattle.parser.specs.streams.Streams.{streams}
use Rattle.parser.proofs.streams.walk.Given as goal

abbrev pub invariant-loop-k : goal.invariant-loop-k
invariant-loop-k l = (l.at ≤ length l.f) × (streams l.n l.limit l.f l.p ≡ streams (l.n - l._k) l.limit l.f l.at)
