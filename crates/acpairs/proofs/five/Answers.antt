use mir.Syntax.{w16}
use mathlib.Core.Path.{ap, ◌∙◌}
use lib.IntN.{ℤ}
use mir.Facts.{to_z-of_z}
use borrow.Author.Rules.{sfits_of}
use Rattle.scalar.specs.Scalar.{sra_of}
use Rattle.acpairs.proofs.Fives.{five_is}
use Rattle.acpairs.proofs.five.Goals as goal

pub returns : goal.returns
returns c =
    to_z-of_z {w = w16} (sfits_of c.sra16.type_inv) ∙ c.sra16.ensures ∙ ap (λ (z : ℤ). sra_of z 11) (to_z-of_z {w = w16} (sfits_of c.before.low.type_inv) ∙ c.before.low.ensures)
    ∙ five_is c.before.before.args.x
