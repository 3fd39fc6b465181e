use mathlib.Core.Path.{ap, ◌∙◌}
use Prim.Native.Nat.{ℕ}
use Rattle.sample.specs.Depth.{is_ten}
use Rattle.sample.proofs.Clamps.{dequant_shift_small}
use Rattle.irow.specs.Stages.{pair_up_of}
use Rattle.quant.specs.Quantise.{dequantise_with}
use Rattle.dct.proofs.Blocks.{core_law}
use Rattle.dct.proofs.inverse.idct_core.Goals as goal

pub dequant-b-requires : goal.dequant-b-requires
dequant-b-requires g c = rw (c.DEQUANT_SHIFT-shift.ensures, g.met.S.Sample.numbers.dequant_shift_is) (dequant_shift_small (is_ten g.S.Sample.depth))

pub returns : goal.returns
returns g c =
    let a = c.args in
    core_law (is_ten g.S.Sample.depth) a.d.now a.nat
    (c.dequant-b.ensures ∙ ap (λ (n : ℕ). pair_up_of (dequantise_with n a.d.now a.nat)) (c.DEQUANT_SHIFT-shift.ensures ∙ g.met.S.Sample.numbers.dequant_shift_is))
    c.inverse.ensures
