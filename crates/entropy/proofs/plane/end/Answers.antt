-- `entropy::plane::end`.
use mathlib.Core.Path.{ap, ◌∙◌}
use Rattle.bitwriter.specs.declared.BitAcc.{BitAcc}
use Rattle.bitwriter.proofs.Writer.{whole_room, wrote_whole, whole_place}
use Rattle.entropy.proofs.plane.Rooms.{run_room}
use Rattle.entropy.proofs.plane.end.Goals as goal

pub put_run-requires : goal.put_run-requires
put_run-requires c = (c.requires.run_few, run_room c.requires)

pub align-a-requires : goal.align-a-requires
align-a-requires c = whole_room c.put_run.ensures c.requires.ac_room

pub returns : goal.returns
returns c = record {
  dc_bytes_lem = c.align-d.ensures.1;
  dc_end_lem = ap (λ (b : BitAcc). b.pos) c.align-d.ensures.0;
  ac_bytes_lem = wrote_whole c.put_run.ensures c.align-a.ensures.1;
  ac_end_lem = ap (λ (b : BitAcc). b.pos) (c.align-a.ensures.0 ∙ whole_place c.put_run.ensures);
}
