-- `bitwriter::store::store_low`: one byte a turn; the bytes stored, then those to come, are the bytes of w.
use mathlib.Core.Path.{◌≡◌}
use mathlib.Core.List.{◌++◌}
use Prim.Native.Nat.{◌+◌}
use lib.ListN.{length, take}
use Rattle.bits.specs.ByteRow.{word_bytes}
use Rattle.bitwriter.proofs.store.store_low.Given as goal

abbrev pub invariant-loop-byte : goal.invariant-loop-byte
invariant-loop-byte l = (length l.byte-items ≡ l.m) × (l.k + l.byte-index ≡ l.m) × (take l.byte-index l.byte-items ++ word_bytes l.k l.w ≡ word_bytes l.m l.w)
