use Rattle.std.proofs.Common.{◌≡◌, ◌*◌, ◌≤◌, get_or, arith, rules}
use native.Mathlib.Nat.{mul-le-mul}
use Rattle.tables.proofs.Sizes.{divisor_first, divisor_product, base_high}
use Rattle.tables.proofs.divisors.divisor.Goals as goal

pub overflow_mul-result : goal.overflow_mul-result
overflow_mul-result c =
    let h : get_or c.args.base.now c.args.y 0 ≤ 83 = rw c.requires.1 (base_high c.args.y c.requires.0) in
    let k : get_or c.args.base.now c.args.y 0 * c.args.factor ≤ 83 * 64 = mul-le-mul h c.requires.2 in
    record { fits = omega arith }

pub returns-then-y-eq0 : goal.returns-then-y-eq0
returns-then-y-eq0 c p e = rw c.if-y-eq0.true (divisor_first p c.args.factor e)

pub returns-else-y-eq0 : goal.returns-else-y-eq0
returns-else-y-eq0 c p e = rw c.requires.1 (divisor_product p c.args.y c.args.factor c.if-y-eq0.false e)
