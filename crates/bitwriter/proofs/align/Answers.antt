-- `bitwriter::align`: the bits that wait, moved up to whole bytes.
use native.Mathlib.Omega.{arith}
use Rattle.bitwriter.proofs.Filling.{moved_up, padding}
use Rattle.bitwriter.proofs.align.Goals as goal

pub join-w-requires : goal.join-w-requires
join-w-requires c = (omega arith, moved_up c.args.a.nbits c.args.a.acc c.requires.few c.requires.low, padding c.args.a.nbits)
