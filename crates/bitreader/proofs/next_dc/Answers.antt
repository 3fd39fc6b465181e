-- `bitreader::next_dc` meets its contract: where the look finds no code, the slow path reads it. Assumes nothing.
use mathlib.Core.Path.{sym, ap}
use native.Mathlib.Omega.{arith}
use Rattle.std.specs.Prelude.{Ok, Err}
use Rattle.bits.specs.Bits.{bit, bit_at}
use Rattle.bitreader.proofs.Spans.{dc_bad, dc_size}
use Rattle.bitreader.proofs.Looks.{dc_at, bad_here}
use Rattle.bitreader.proofs.Longs.{long_dc}
use Rattle.bitreader.proofs.next_dc.Goals as goal

pub returns-in_default-long_number : goal.returns-in_default-long_number
returns-in_default-long_number c =
    let s = c.args.s.now in
    let f = c.filled-d in
    let d = f.result in
    let z = c.in_default.ensures s f.ensures.0 in
    dc_at s c.args.c d (Err _) f.ensures.1 (bad_here s d 0 f.ensures.0 (sym (ap bit z)), dc_bad (bit_at s) d.pos z c.in_default-long_number.ensures)

pub longer-requires : goal.longer-requires
longer-requires c =
    let s = c.args.s.now in
    let f = c.filled-d in
    let d = f.result in
    let l = c.in-Some-long_number in
    (omega arith, omega arith, (dc_size (bit_at s) d.pos (c.in_default.ensures s f.ensures.0) l.v l.ensures).more)

pub returns : goal.returns
returns c =
    let s = c.args.s.now in
    let f = c.filled-d in
    let d = f.result in
    let l = c.in-Some-long_number in
    rw c.longer.ensures (dc_at s c.args.c d (Ok _) f.ensures.1 (long_dc s d (c.in_default.ensures s f.ensures.0) l.v l.ensures))
