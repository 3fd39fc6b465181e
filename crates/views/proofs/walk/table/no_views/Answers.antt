-- `views::walk::table::no_views`.
use native.Mathlib.Omega.{arith}
use Prim.Native.Nat.{◌+◌, ◌-◌, ◌*◌}
use lib.ListN.{drop, length-drop}
use lib.Seq.{length-take-le}
use Rattle.views.proofs.walk.Laws.{zeros_laid}
use Rattle.views.proofs.walk.table.no_views.Goals as goal

pub returns : goal.returns
returns c =
    let t = c.args.table.now in
    let i = c.args.i in
    let n = c.args.n in
    zeros_laid t i n (c.fill.ensures.after (λ y e. e))
    (omega (arith, c.requires, length-take-le (i + 2 * n - i) (drop i t) (omega (arith, c.requires, length-drop i t))))
