-- `quant::Quantiser::quant` puts a row in each turn of the loop inside.
use borrow.Author.Rules.{rules}
use mathlib.Core.Path.{◌∙◌}
use Prim.Native.Nat.{ℕ, ◌+◌, ◌*◌}
use native.Mathlib.Omega.{arith}
use mir.Syntax.{w16}
use mir.Val.{SFits}
use Rattle.lanes.proofs.rows.Loops.{put_done, two_turn}
use Rattle.quant.specs.Quantise.{coefficient}
use Rattle.quant.proofs.Rows.{each_fits, row_at, row_of_calls, row_fits, block_law}
use Rattle.quant.proofs.quantiser.Quantiser.quant.Goals as goal

pub quant_row-y-requires : goal.quant_row-y-requires
quant_row-y-requires g c =
    let fits : (i : ℕ) → SFits w16 (coefficient c.args.w i) = λ i. search (each_fits, rules) in
    row_fits c.args.self.now.numbers c.args.w fits c.args.self.now.encodes (2 * c.loop-p.p + c.loop-h.h) (omega arith) c.row.ensures c.numbers_at.ensures c.numbers_at-in-loop-h.ensures c.numbers_at-in-loop-h-2.ensures

pub loop-h-preserved : goal.loop-h-preserved
loop-h-preserved g c =
    let k = c.args.self.now.numbers in
    let p = c.loop-p.p in
    let h = c.loop-h.h in
    two_turn (row_at k c.args.w) c.loop-h.q p h c.loop-p-test.true c.loop-h-test.true c.loop-h.invariant c.put.ensures
    (row_of_calls k c.args.w (2 * p + h) c.row.ensures c.numbers_at.ensures c.numbers_at-in-loop-h.ensures c.numbers_at-in-loop-h-2.ensures c.quant_row-y.ensures)

pub returns : goal.returns
returns g c =
    let k = c.args.self.now.numbers in
    let fits : (i : ℕ) → SFits w16 (coefficient c.args.w i) = λ i. search (each_fits, rules) in
    λ preset hp e.
    put_done (row_at k c.args.w) c.loop-p.q (2 * c.loop-p.p) (omega arith) c.loop-p.invariant ∙ block_law k c.args.w fits preset hp e
