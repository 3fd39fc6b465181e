use Rattle.std.proofs.Common.{rules}
use Prim.Native.Nat.{ℕ}
use lib.ListN.{get_or}
use mir.Syntax.{w16}
use mir.Val.{Fits}
use Rattle.quant.proofs.Paired.{row_law}
use Rattle.quant.proofs.dequant.dequant_row.Goals as goal

pub returns : goal.returns
returns g c =
    let a = c.args in
    let small : (i : ℕ) → Fits w16 (get_or a.d i 0) = λ i. search rules in
    row_law a.shift a.d a.x small c.load_u-u.ensures c.mullo-y.ensures c.shufflelo-l.ensures c.shufflehi-h.ensures c.srai16.ensures
