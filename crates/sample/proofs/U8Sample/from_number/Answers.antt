use borrow.Author.Rules.{sfits_of}
use mathlib.Core.Path.{ap, ◌∙◌}
use lib.IntN.{ℤ, pos}
use mir.Syntax.{w16}
use mir.Facts.{to_z-of_z}
use Rattle.scalar.specs.Scalar.{packus_of, max_of}
use Rattle.sample.proofs.Clamps.{from_zero}
use Rattle.sample.proofs.U8Sample.from_number.Goals as goal

pub returns : goal.returns
returns c =
    c.packus1.ensures
    ∙ ap packus_of (to_z-of_z {w = w16} (sfits_of c.max1.type_inv) ∙ c.max1.ensures ∙ ap (λ (z : ℤ). max_of z (pos 0)) (to_z-of_z c.ranges.z))
    ∙ from_zero c.args.z
