-- `quant::scan::zigzag`: sixteen times four moves.
use mathlib.Core.Path.{refl}
use Rattle.quant.proofs.scan.Moves.{moved}
use Rattle.quant.proofs.scan.zigzag.Goals as goal

pub returns : goal.returns
returns g c =
    moved c.args.n refl
    c.four.ensures c.four-2.ensures c.four-3.ensures c.four-4.ensures
    c.four-5.ensures c.four-6.ensures c.four-7.ensures c.four-8.ensures
    c.four-9.ensures c.four-10.ensures c.four-11.ensures c.four-12.ensures
    c.four-13.ensures c.four-14.ensures c.four-15.ensures c.four-16.ensures
