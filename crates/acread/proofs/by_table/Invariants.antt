-- `acread::by_table`: the loop over looks.
use mathlib.Core.Path.{◌≡◌}
use Prim.Native.Nat.{◌+◌, ◌^◌, ◌≤◌, ◌<◌}
use Rattle.acread.specs.Going.{Onward}
use Rattle.acread.proofs.by_table.Given as goal

abbrev pub invariant-loop-c : goal.invariant-loop-c
invariant-loop-c l =
    Onward (record { c = l.initial.c; place = l.initial.place }) (record { c = l.c; place = l.place }) × (l.c.pos + l.c.count ≡ l.initial.c.pos + l.initial.c.count) × (l.c.count ≤ 64) × (l.place < 2 ^ 58)

abbrev pub decreases-loop-c : goal.decreases-loop-c
decreases-loop-c l = l.c.count
