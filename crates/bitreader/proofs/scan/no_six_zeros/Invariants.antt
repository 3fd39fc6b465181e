-- What was found so far and what is still to come together are the answer. Assumes nothing.
use mathlib.Core.Path.{◌≡◌}
use mathlib.Core.Bool.{◌&&◌}
use Prim.Native.Nat.{◌<◌}
use lib.Dec.{eqb}
use lib.ListN.{drop}
use Rattle.bitreader.specs.scan.Six.{no_six_zeros}
use Rattle.bitreader.proofs.scan.no_six_zeros.Given as goal

abbrev pub invariant-loop-i : goal.invariant-loop-i
invariant-loop-i l = (no_six_zeros (drop l.from l.s) ≡ (eqb l.found 0 && no_six_zeros (drop l.i l.s))) × (l.found < 2)
