use Rattle.std.proofs.Common.{◌≡◌, length, refl, sym, subst, rules, arith}
use Rattle.shuffles.specs.mask.Mask.{Light}
use Rattle.shuffles.proofs.mask.Weights.{light, by_halves}
use Rattle.shuffles.proofs.mask.nonzero_mask.Goals as goal

pub half-requires : goal.half-requires
half-requires c = (refl, omega arith, subst Light (sym c.weigh_all-f.ensures) (light c.args.zz))

pub half-requires-2 : goal.half-requires-2
half-requires-2 c = (refl, omega arith, subst Light (sym c.weigh_all-f.ensures) (light c.args.zz))

pub returns : goal.returns
returns c =
    let e : length c.args.zz ≡ 64 = search rules in
    by_halves c.args.zz e c.weigh_all-f.ensures c.half.ensures c.half-2.ensures
