-- `bitreader::look` meets its contract. Assumes nothing.
use Rattle.bitreader.proofs.Seens.{seen_none, seen_some}
use Rattle.bitreader.proofs.look.Goals as goal

pub returns-then-c-n : goal.returns-then-c-n
returns-then-c-n c = seen_none c.args.c c.if-c-n.true

pub returns : goal.returns
returns c = seen_some c.args.c c.requires.0 c.digits.result c.skip.result c.if-c-n.false c.digits.ensures c.skip.ensures.0 c.skip.ensures.1 c.skip.ensures.2
