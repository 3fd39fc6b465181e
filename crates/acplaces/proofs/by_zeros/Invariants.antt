-- `acplaces::by_zeros`: the loop over symbols.
use Prim.Native.Nat.{◌+◌, ◌-◌, ◌*◌, ◌^◌, ◌≤◌, ◌<◌}
use Rattle.acplaces.specs.Going.{Onward}
use Rattle.acplaces.proofs.by_zeros.Given as goal

abbrev pub invariant-loop-m : goal.invariant-loop-m
invariant-loop-m l =
    Onward (record { c = l.initial.c; place = l.initial.place }) l.initial.nat (record { c = l.c; place = l.place }) l.nat
    × (l.m ≤ 3) × (l.c.count ≤ 64) × (l.c.pos ≤ l.initial.c.pos + 64 * l.m) × (l.place < 2 ^ 57)

abbrev pub decreases-loop-m : goal.decreases-loop-m
decreases-loop-m l = 3 - l.m
