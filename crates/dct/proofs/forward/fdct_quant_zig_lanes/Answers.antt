-- `dct::forward::fdct_quant_zig_lanes`: the three steps' equations, one after the other. Assumes nothing.
use mathlib.Core.Path.{◌∙◌, ap}
use lib.IntN.{ℤ}
use mir.Facts.{to_z-of_z}
use Rattle.quant.specs.Quantise.{quantise_of, scan_of}
use Rattle.fdct.specs.Forward.{transform_of}
use Rattle.dct.proofs.forward.fdct_quant_zig_lanes.Goals as goal

pub returns : goal.returns
returns g c =
    λ preset h e.
    c.zigzag.ensures
    ∙ ap scan_of (c.quant-q.ensures preset h e
    ∙ ap (quantise_of preset) (c.fdct-w.ensures ∙ ap (λ (z : ℤ). transform_of c.args.shift z c.args.block) (to_z-of_z c.ranges.add)))
