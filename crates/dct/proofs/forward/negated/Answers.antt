-- `dct::forward::negated`: a level that is no negative number has a negation of 16 bits. Assumes nothing.
use mathlib.Core.Path.{◌≡◌, ap, ◌∙◌}
use lib.IntN.{ℤ, pos, neg_ℤ, ◌-ℤ◌}
use mir.Syntax.{w16}
use mir.Val.{to_z, of_z}
use mir.Facts.{to_z-of_z, to_z_pos}
use Rattle.scalar.proofs.Laws.{neg_is}
use Rattle.quant.proofs.Signs.{neg_small}
use Rattle.dct.proofs.forward.negated.Goals as goal

pub overflow_sub-result : goal.overflow_sub-result
overflow_sub-result c = rw (to_z_pos w16 c.requires, neg_is) (neg_small c.args.level c.requires)

pub returns : goal.returns
returns c =
    let e : pos 0 -ℤ to_z w16 c.args.level ≡ neg_ℤ (pos c.args.level) = rw (to_z_pos w16 c.requires) (neg_is (pos c.args.level)) in
    ap (λ (z : ℤ). to_z w16 (of_z w16 z)) e ∙ to_z-of_z (neg_small c.args.level c.requires)
