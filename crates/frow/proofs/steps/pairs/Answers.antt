-- `frow::steps::pairs`: the code adds the second product first. Assumes nothing.
use Rattle.std.proofs.Common.{rules, ◌≡◌, ◌+◌, ◌*◌, ap, ◌∙◌}
use lib.IntN.{ℤ, pos, ◌*ℤ◌, +ℤ_comm}
use Rattle.scalar.specs.Scalar.{wrap32, madd_of}
use Rattle.lanes.proofs.Elements.{by_elements}
use Rattle.frow.specs.steps.Sides.{at}
use Rattle.frow.specs.steps.Order.{forward_pairs_of}
use Rattle.frow.proofs.steps.pairs.Goals as goal

swapped : (a b c d : ℤ) → madd_of a b c d ≡ madd_of c d a b
unfolding madd_of
swapped a b c d = ap wrap32 (+ℤ_comm (a *ℤ b) (c *ℤ d))

pub returns : goal.returns
unfolding forward_pairs_of
returns c =
    let x = c.args.x in
    let t = c.args.t in
    by_elements (pos 0) 32 c.each.result (search rules)
    (λ k h.
    let m = c.each.ensures k (pos 0) h in
    let e : at c.each.result k ≡ madd_of (at x (2 * k + 1)) (at t (2 * k + 1)) (at x (2 * k)) (at t (2 * k)) = search rules in
    e ∙ swapped (at x (2 * k + 1)) (at t (2 * k + 1)) (at x (2 * k)) (at t (2 * k)))
