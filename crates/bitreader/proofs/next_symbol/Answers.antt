-- `bitreader::next_symbol` meets its contract: where the look finds no symbol, the slow path reads it. Assumes nothing.
use Prim.Native.Nat.{◌/◌, ◌^◌}
use native.Mathlib.Omega.{arith}
use Rattle.std.specs.Prelude.{Ok, Err}
use Rattle.bits.specs.Bits.{bit_at}
use Rattle.bitreader.proofs.Spans.{symbol_bad, long_size}
use Rattle.bitreader.proofs.Looks.{head_most, symbol_at, bad_here}
use Rattle.bitreader.proofs.Longs.{long_symbol}
use Rattle.bitreader.proofs.next_symbol.Goals as goal

pub returns-in_default-long_number : goal.returns-in_default-long_number
returns-in_default-long_number c =
    let s = c.args.s.now in
    let f = c.filled-d in
    let d = f.result in
    let n = c.in_default.ensures in
    let h = n.head s f.ensures.0 (omega arith) in
    symbol_at s c.args.c d (Err _) f.ensures.1
    (bad_here s d (d.bits / 2 ^ 63) f.ensures.0 h, symbol_bad (bit_at s) d.pos (d.bits / 2 ^ 63) h (n.long s f.ensures.0 (omega arith)) c.in_default-long_number.ensures)

pub longer-requires : goal.longer-requires
longer-requires c =
    let s = c.args.s.now in
    let f = c.filled-d in
    let d = f.result in
    let n = c.in_default.ensures in
    let l = c.in-Some-long_number in
    (omega arith, omega (arith, head_most s d f.ensures.0 (omega arith)), (long_size (bit_at s) d.pos (d.bits / 2 ^ 63) (n.head s f.ensures.0 (omega arith)) (n.long s f.ensures.0 (omega arith)) l.v l.ensures).more)

pub returns : goal.returns
returns c =
    let s = c.args.s.now in
    let f = c.filled-d in
    let d = f.result in
    let n = c.in_default.ensures in
    let l = c.in-Some-long_number in
    rw c.longer.ensures (symbol_at s c.args.c d (Ok _) f.ensures.1
    (long_symbol s d (d.bits / 2 ^ 63) (n.head s f.ensures.0 (omega arith)) (n.long s f.ensures.0 (omega arith)) l.v l.ensures))
