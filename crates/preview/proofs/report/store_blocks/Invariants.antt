-- `preview::report::store_blocks`: one byte a turn; what is still to be stored from here gives what the whole gives.
use mathlib.Core.Path.{◌≡◌}
use Prim.Native.Nat.{◌-◌, ◌*◌}
use lib.ListN.{length}
use Rattle.bits.specs.Bits.{bit_at}
use Rattle.bits.specs.Lay.{lay}
use Rattle.calls.specs.ReadPlane.{read_blocks}
use Rattle.acread.specs.Going.{LooksIn}
use Rattle.acread.specs.through.Through.{reports_of}
use Rattle.acread.proofs.through.Going.{Going}
use Rattle.preview.proofs.report.store_blocks.Given as goal

abbrev pub invariant-loop-byte : goal.invariant-loop-byte
invariant-loop-byte l =
    let n = length l.initial.report in
    (length l.report ≡ n) × Going l.ac (8 * l.at) n l.c l.pending (n - l.byte-index) × (lay l.initial.report 0 (reports_of (read_blocks n (bit_at l.ac) (8 * l.at) 0)) ≡ lay l.report l.byte-index (reports_of (read_blocks (n - l.byte-index) (bit_at l.ac) l.c.pos l.pending))) × LooksIn l.looks
