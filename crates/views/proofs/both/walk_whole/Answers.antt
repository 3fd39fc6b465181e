-- `views::both::walk_whole`.
use native.Mathlib.Omega.{arith}
use Prim.Native.Nat.{ℕ}
use lib.ListN.{replicate, length-replicate}
use Rattle.views.specs.both.Views.{small_table}
use Rattle.views.proofs.both.Laws.{holding}
use Rattle.views.proofs.both.walk_whole.Goals as goal

pub walk-requires : goal.walk-requires
walk-requires c =
    let a = c.args in
    (c.requires.0, holding a.size.height a.table.now (replicate small_table 0) (omega (arith, c.requires.1)) (omega (arith, length-replicate {A = ℕ} small_table 0)) c.requires.2 c.put.ensures)
