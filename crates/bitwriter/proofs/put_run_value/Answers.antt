-- `bitwriter::put_run_value`: both codes are one number.
use Rattle.bitwriter.proofs.Pairs.{pair_asks}
use Rattle.bitwriter.proofs.put_run_value.Goals as goal

pub put-requires : goal.put-requires
put-requires c = pair_asks c.args.n c.args.c c.pair_code-p.ensures c.requires.0 c.requires.1 c.requires.2 c.requires.3
