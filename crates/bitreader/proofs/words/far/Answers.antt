-- `bitreader::words::far` meets its contract. Assumes nothing.
use Rattle.bitreader.proofs.words.Words.{holds_peek}
use Rattle.bitreader.proofs.words.far.Goals as goal

pub returns : goal.returns
returns c = let a = c.before.before.args in holds_peek a.s.now a.p c.edge.result c.edge.ensures
