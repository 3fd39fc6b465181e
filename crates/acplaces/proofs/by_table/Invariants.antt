-- `acplaces::by_table`: the loop over looks.
use mathlib.Core.Path.{◌≡◌}
use Prim.Native.Nat.{◌+◌, ◌<◌}
use Rattle.acplaces.specs.Going.{Onward}
use Rattle.acplaces.proofs.by_table.Given as goal

abbrev pub invariant-loop-c : goal.invariant-loop-c
invariant-loop-c l =
    Onward (record { c = l.initial.c; place = l.initial.place }) l.initial.nat (record { c = l.c; place = l.place }) l.nat × (l.c.pos + l.c.count ≡ l.initial.c.pos + l.initial.c.count) × (l.place < 128)

abbrev pub decreases-loop-c : goal.decreases-loop-c
decreases-loop-c l = l.c.count
