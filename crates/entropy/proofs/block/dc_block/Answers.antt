-- `entropy::block::dc_block`: a step of 0 is two bits.
use mathlib.Core.Path.{sym, ap, ◌∙◌}
use native.Mathlib.Omega.{arith}
use mir.Syntax.{w32}
use mir.Val.{to_z}
use mir.Facts.{to_z-of_z}
use Rattle.bits.specs.Bits.{bits_of}
use Rattle.entropy.proofs.block.Codes.{zero_step_lem, room_by}
use Rattle.entropy.proofs.block.dc_block.Goals as goal

pub put-requires : goal.put-requires
unfolding bits_of
put-requires c = (omega arith, omega arith, room_by (zero_step_lem c.args.step (sym (to_z-of_z c.ranges.step) ∙ ap (to_z w32) c.if-step-eq0.true)) c.requires.1)
