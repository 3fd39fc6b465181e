-- `dct::forward::fdct_quant_zig`: the shared path on the loaded lanes. Assumes nothing.
use borrow.Author.Rules.{sfits_of}
use mathlib.Core.Path.{◌∙◌}
use Rattle.sample.specs.Depth.{is_ten}
use Rattle.dct.proofs.Joined.{shift_small, joined}
use Rattle.dct.proofs.forward.fdct_quant_zig.Goals as goal

pub fdct_quant_zig_lanes-requires : goal.fdct_quant_zig_lanes-requires
fdct_quant_zig_lanes-requires g c = rw (c.COLUMN_SHIFT-shift.ensures ∙ g.met.S.Sample.numbers.column_shift_is) (shift_small g.S.Sample.depth)

pub returns : goal.returns
returns g c =
    λ preset h e. joined (is_ten g.S.Sample.depth) preset c.args.level (sfits_of c.negated-add.type_inv) c.negated-add.ensures c.load-block.ensures (c.COLUMN_SHIFT-shift.ensures ∙ g.met.S.Sample.numbers.column_shift_is) (c.fdct_quant_zig_lanes.ensures preset h e)
