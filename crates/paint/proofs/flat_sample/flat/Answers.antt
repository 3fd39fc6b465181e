use borrow.Author.Rules.{sfits_of}
use mathlib.Core.Path.{◌∙◌, ap}
use lib.Dec.{lit≤}
use lib.IntN.{ℤ, pos}
use mir.Syntax.{w16}
use Rattle.scalar.specs.Scalar.{add_of, sra_of}
use Rattle.scalar.proofs.Laws.{lane2}
use Rattle.sample.specs.Depth.{is_ten}
use Rattle.sample.specs.Numbers.{sample_of}
use Rattle.paint.proofs.Pixels.{flat_is}
use Rattle.paint.proofs.flat_sample.flat.Goals as goal

pub returns : goal.returns
returns g c =
    c.from_number.ensures
    ∙ ap (sample_of (is_ten g.S.Sample.depth))
    (lane2 {v = w16} {w = w16} add_of (sfits_of c.sra16-s.type_inv) c.ranges.level (sfits_of c.add1-2.type_inv) c.add1-2.ensures
    ∙ ap (λ (z : ℤ). add_of z c.args.level)
    (c.sra16-s.ensures
    ∙ ap (λ (z : ℤ). sra_of z 3) (lane2 {v = w16} {w = w16} add_of {y = pos 4} c.ranges.dc (record { sfits = lit≤ tt }) (sfits_of c.add1.type_inv) c.add1.ensures)))
    ∙ flat_is (is_ten g.S.Sample.depth) c.args.level c.args.dc
