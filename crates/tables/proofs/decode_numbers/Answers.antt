use Rattle.std.proofs.Common.{rules, ◌≡◌, ◌≤◌, get_or, arith}
use Rattle.std.proofs.iter.Serving.{serving}
use Rattle.tables.specs.Divisor.{divisor, divisors_of, base_matrix, quality_factors}
use Rattle.tables.proofs.Made.{made}
use Rattle.tables.proofs.Presets.{factor_high}
use Rattle.tables.proofs.decode_numbers.Goals as goal

pub from_fn-requires : goal.from_fn-requires
from_fn-requires c =
    let h : get_or c.quality_factors.result c.args.preset 0 ≤ 64 = factor_high c.quality_factors.result c.args.preset c.quality_factors.ensures c.requires in
    grind (arith, serving)

pub returns : goal.returns
unfolding divisors_of
returns c =
    let p = c.args.preset in
    made _ (λ s. (s.0.now ≡ base_matrix) × (s.1.now ≡ get_or quality_factors p 0)) (divisor p) 64 (λ q i y r ok l e. (search rules, search rules)) c.from_fn.result _ (search rules) 0
    c.from_fn.ensures.items
