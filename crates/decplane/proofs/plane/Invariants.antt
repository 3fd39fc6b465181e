-- `decplane::plane`: an invariant for each of the two loops, over the blocks so far.
use Prim.Native.Nat.{◌≤◌}
use Rattle.calls.specs.Arguments.{settings, plane, buffers}
use Rattle.decplane.proofs.Loops.{Rows, Row}
use Rattle.decplane.proofs.plane.Given as goal

abbrev pub invariant-loop-k : goal.invariant-loop-k
invariant-loop-k g l =
    (l.k ≤ l.cols) × Row (settings g.S.Sample.depth l.preset l.shift) l.place l.stride (buffers l.dc l.ac) l.j l.initial.stand (g.S.Sample.samples l.initial.rows) l.k l.stand (g.S.Sample.samples l.rows)

abbrev pub invariant-loop-j : goal.invariant-loop-j
invariant-loop-j g l =
    (l.j ≤ 2) × Rows (settings g.S.Sample.depth l.preset l.shift) (plane l.place l.stride (g.S.Sample.samples l.initial.rows)) (buffers l.dc l.ac) l.initial.stand l.j l.stand (g.S.Sample.samples l.rows)
