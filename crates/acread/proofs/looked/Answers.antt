-- `acread::looked`: by the table, or nothing.
use Rattle.acread.proofs.Table.{onward_none}
use Rattle.acread.proofs.looked.Goals as goal

pub returns-in-None : goal.returns-in-None
returns-in-None c = onward_none c.args.a
