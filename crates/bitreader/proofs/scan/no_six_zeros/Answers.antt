-- `bitreader::scan::no_six_zeros` meets its contract: what was found so far and what is still to come together are the answer. Assumes nothing.
use mathlib.Core.Path.{refl, sym, ap, ◌∙◌}
use mathlib.Core.Bool.{Bool, ◌&&◌, and-true}
use native.Mathlib.Omega.{arith}
use lib.Dec.{eqb}
use lib.ListN.{drop}
use Rattle.bitreader.specs.scan.Six.{no_six_zeros}
use Rattle.bitreader.proofs.scan.Rows.{found_more, no_six_end}
use Rattle.bitreader.proofs.scan.no_six_zeros.Goals as goal

pub returns-then-n-lt6 : goal.returns-then-n-lt6
returns-then-n-lt6 c = sym (no_six_end c.args.s.now c.args.from (omega arith))

pub loop-i-init : goal.loop-i-init
loop-i-init c = (refl, omega arith)

pub loop-i-preserved : goal.loop-i-preserved
loop-i-preserved c =
    let r = found_more c.args.s.now c.loop-i.i c.loop-i.found c.six-found.result (no_six_zeros (drop c.args.from c.args.s.now)) (omega arith) c.loop-i.invariant.1 c.six-found.ensures c.loop-i.invariant.0 in
    (r.0, r.1)

pub returns : goal.returns
returns c =
    let l = c.loop-i in
    sym (l.invariant.0 ∙ ap (λ (t : Bool). eqb l.found 0 && t) (no_six_end c.args.s.now l.i (omega arith)) ∙ and-true (eqb l.found 0))
