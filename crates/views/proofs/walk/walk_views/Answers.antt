-- `views::walk::walk_views`: after each stream the table holds the views so far.
use mathlib.Core.Path.{refl, sym}
use Rattle.views.proofs.walk.Walk.{begins, goes_on_lem, stops, undone}
use Rattle.views.proofs.walk.walk_views.Goals as goal

pub loop-k-init : goal.loop-k-init
loop-k-init c =
    let a = c.args in
    begins a.f.now a.n a.limit a.p a.from a.table.now a.held.now c.requires

pub returns-in-Err : goal.returns-in-Err
returns-in-Err c =
    let a = c.args in
    let w = c.loop-k.invariant in
    let no = stops a.f.now a.n a.limit a.p a.from a.table.now a.held.now c.requires w c.loop-k-test.true (sym c.in-Err.ensures.place) in (
      sym no,
      rw no
          (undone a.f.now a.n a.limit a.p a.from a.table.now a.held.now c.requires w c.loop-k-test.true c.put.ensures),
    )

pub loop-k-preserved : goal.loop-k-preserved
loop-k-preserved c =
    let a = c.args in
    goes_on_lem a.f.now a.n a.limit a.p a.from a.table.now a.held.now c.requires c.loop-k.invariant c.loop-k-test.true refl
    (sym c.in-Ok.ensures.place) c.put_view.ensures
