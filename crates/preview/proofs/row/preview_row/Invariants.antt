-- `preview::row::preview_row`: one byte a turn; the loop carries `Row`.
use mathlib.Core.Path.{◌≡◌}
use lib.ListN.{length}
use Rattle.preview.proofs.row.Going.{Row}
use Rattle.preview.proofs.row.preview_row.Given as goal

abbrev pub invariant-loop-byte : goal.invariant-loop-byte
invariant-loop-byte l = (length l.byte-items ≡ l.columns) × Row l.dc l.shift l.level l.columns l.initial.c.pos l.prior l.initial.byte-items l.c l.last l.byte-index l.byte-items
