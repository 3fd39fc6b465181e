-- `bitwriter::put_value`: a value code is one number.
use native.Mathlib.Omega.{arith}
use Rattle.bitwriter.proofs.Words.{value_word, room_as}
use Rattle.bitwriter.proofs.put_value.Goals as goal

pub put-requires : goal.put-requires
put-requires c = let w = value_word 32 c.args.c c.bit_len.result (omega arith) c.requires.0 c.ranges.c.fits c.bit_len.ensures in (omega (arith, w.most), w.fits, room_as w.long c.requires.1)
