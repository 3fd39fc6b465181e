-- `encplane::plane`: an invariant for each of the two loops, over the blocks so far.
use Prim.Native.Nat.{◌-◌, ◌≤◌}
use Rattle.calls.specs.Views.{settings_by, plane_by}
use Rattle.encplane.proofs.Loops.{From}
use Rattle.encplane.proofs.plane.Given as goal

abbrev pub invariant-loop-i : goal.invariant-loop-i
invariant-loop-i g l = (l.i ≤ l.cols) × From (settings_by g.S.Sample.depth l.s) (plane_by l.fn.h (g.S.Sample.samples l.rows)) l.j l.initial.w l.initial.dcs l.initial.acs l.j l.i l.w l.dcs l.acs

abbrev pub decreases-loop-i : goal.decreases-loop-i
decreases-loop-i g l = l.cols - l.i

abbrev pub invariant-loop-j : goal.invariant-loop-j
invariant-loop-j g l = (l.j ≤ 2) × From (settings_by g.S.Sample.depth l.s) (plane_by l.fn.h (g.S.Sample.samples l.rows)) 0 l.initial.w l.initial.dcs l.initial.acs l.j 0 l.w l.dcs l.acs

abbrev pub decreases-loop-j : goal.decreases-loop-j
decreases-loop-j g l = 2 - l.j
