-- `bitreader::look_dc` meets its contract. Assumes nothing.
use mathlib.Core.Path.{refl}
use lib.Count.{count_leading_zeros}
use Rattle.std.proofs.Common.{rules}
use Rattle.bitreader.proofs.Looks.{dc_none, dc_some}
use Rattle.bitreader.proofs.look_dc.Goals as goal

pub returns-then-y-gt14 : goal.returns-then-y-gt14
returns-then-y-gt14 c = dc_none c.args.c c.requires.0 c.if-y-gt14.true

pub returns : goal.returns
returns c =
    let a = c.args.c in
    dc_some a c.requires.0 (count_leading_zeros 64 a.bits) c.digits.result c.skip.result (search rules) refl c.if-y-gt14.false c.digits.ensures c.skip.ensures.0 c.skip.ensures.1 c.skip.ensures.2
