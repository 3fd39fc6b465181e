-- `bitreader::from_code` meets its contract. Assumes nothing.
use mir.Syntax.{w16}
use mathlib.Core.Path.{◌∙◌}
use mir.Facts.{to_z-of_z}
use Rattle.bitreader.proofs.Signs.{code_odd, code_even}
use borrow.Author.Rules.{sfits_of}
use Rattle.bitreader.proofs.from_code.Goals as goal

pub returns-then-code-eq1 : goal.returns-then-code-eq1
returns-then-code-eq1 c = to_z-of_z {w = w16} (sfits_of c.low.type_inv) ∙ c.low.ensures ∙ code_odd c.before.before.args.code c.before.if-code-eq1.true

pub returns-else-code-eq1 : goal.returns-else-code-eq1
returns-else-code-eq1 c = to_z-of_z {w = w16} (sfits_of c.low-else-code-eq1.type_inv) ∙ c.low-else-code-eq1.ensures ∙ code_even c.before.before.args.code c.before.if-code-eq1.false
