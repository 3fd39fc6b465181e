use borrow.Author.Rules.{sfits_of}
use native.Mathlib.Omega.{arith}
use lib.IntN.{ℤ, nat_abs}
use lib.ListN.{get_or}
use mir.Syntax.{w16}
use mir.Val.{SFits}
use mir.Facts.{to_z-of_z}
use Rattle.scalar.proofs.Fill.{filled_next, filled_done}
use Rattle.scalar.proofs.Laws.{lane1}
use Rattle.tables.specs.Reciprocal.{two_high}
use Rattle.quant.specs.Quantise.{coefficient, with_sign}
use Rattle.quant.specs.Rows.{multiplied_at, multiplied_row}
use Rattle.quant.proofs.quant_row.Goals as goal

pub quant1-requires : goal.quant1-requires
quant1-requires c =
    let x : SFits w16 (coefficient c.args.x c.loop-k.k) = sfits_of c.quant1-arg-1.given in
    rw (to_z-of_z x) (c.requires c.loop-k.k c.loop-k-test.true)

pub loop-k-preserved : goal.loop-k-preserved
loop-k-preserved c =
    let a = c.args in
    let k = c.loop-k.k in
    filled_next 8 (λ i. with_sign (coefficient a.x i) (multiplied_at a.c a.r a.s a.x i)) c.loop-k.q k (omega arith) c.loop-k.invariant
    (lane1 {v = w16} {w = w16} (λ (x : ℤ). with_sign x (two_high (get_or a.c k 0) (get_or a.r k 0) (get_or a.s k 0) (nat_abs x))) (sfits_of c.quant1-arg-1.given) (sfits_of c.quant1.type_inv) c.quant1.ensures)

pub returns : goal.returns
unfolding multiplied_row
returns c =
    let a = c.args in
    filled_done 8 (λ i. with_sign (coefficient a.x i) (multiplied_at a.c a.r a.s a.x i)) c.loop-k.q c.loop-k.k (omega arith) c.loop-k.invariant
