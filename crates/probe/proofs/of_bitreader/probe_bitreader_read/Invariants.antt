use Rattle.std.proofs.Common.{◌+◌, ◌^◌, ◌<◌, ◌≡◌, length}
use Rattle.bitreader.specs.Cursor.{At}
use Rattle.probe.proofs.of_bitreader.probe_bitreader_read.Given as goal

abbrev pub invariant-loop-three : goal.invariant-loop-three
invariant-loop-three l =
    (goal.iterator-loop-three).can_next l.three-iterator
    × (goal.iterator-loop-three).is_finite l.three-iterator
    × At l.s l.cursor
    × (l.three-iterator.size ≡ 3)
    × (l.stored + length l.three-iterator.rest.s.now < 2 ^ 63)
