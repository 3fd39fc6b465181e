-- `bitreader::words::byte` meets its contract. Assumes nothing.
use mathlib.Core.Path.{sym}
use lib.ListN.{get_or-eq_default}
use Rattle.bitreader.proofs.words.Words.{get_d_in}
use Rattle.bitreader.proofs.words.byte.Goals as goal

pub returns-then-i-s : goal.returns-then-i-s
returns-then-i-s c = let a = c.before.before.args in get_d_in a.s.now a.i 0 255 c.before.if-i-s.true

pub returns-else-i-s : goal.returns-else-i-s
returns-else-i-s c = let a = c.before.args in sym (get_or-eq_default a.s.now 255 c.if-i-s.false)
