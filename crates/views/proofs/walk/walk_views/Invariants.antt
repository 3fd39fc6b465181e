-- `views::walk::walk_views`: after each stream the table holds the views so far.
use Rattle.views.proofs.walk.Walk.{Walking}
use Rattle.views.proofs.walk.walk_views.Given as goal

abbrev pub invariant-loop-k : goal.invariant-loop-k
invariant-loop-k l = Walking l.f l.n l.limit l.p l.from l.initial.table l.table l.at l.k
