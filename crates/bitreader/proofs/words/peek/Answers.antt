-- `bitreader::words::peek` meets its contract. Assumes nothing.
use Rattle.bitreader.proofs.words.Words.{holds_peek}
use Rattle.bitreader.proofs.words.peek.Goals as goal

pub returns-then-i-s : goal.returns-then-i-s
returns-then-i-s c = let a = c.before.before.before.args in holds_peek a.s.now a.p c.word.result c.word.ensures
