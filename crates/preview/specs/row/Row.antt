-- A row of blocks, and both, by their DC codes. Document 01, 'Plane and slice', 'Preview'.
use Rattle.std.specs.Prelude.{◌≡◌, true, List, ◌++◌, ℕ, ◌+◌, ◌*◌, ◌≤◌, ℤ, length, take, drop}
use Rattle.std.specs.Int.{w16}
use Rattle.std.proofs.Common.{SFits}
use Rattle.ask.specs.Ask.{accepted}
use Rattle.bits.specs.Bits.{bit_at}
use Rattle.bits.specs.Lay.{lay}
use Rattle.bitreader.specs.Cursor.{At}
use Rattle.calls.specs.ReadPlane.{DcSteps, read_steps}
use Rattle.calls.specs.Previews.{preview_bytes}
use Rattle.blockread.specs.dc.Steps.{step_list, bytes_from}
use Rattle.preview.specs.declared.row.RowEnd.{RowEnd}
use Rattle.acread.specs.through.Codes.{good_steps, dc_bit, dc_end}

-- a row of n blocks at the bit p of s, after a block whose DC was `before`, stored in `out`. However many blocks follow, their bytes
-- and their end are those that the cursor and the DC handed back lead to, if no code is bad
pub record RowDone (s : List ℕ) (shift : ℕ) (level : ℤ) (n p : ℕ) (before : ℤ) (out exit : List ℕ) (e : RowEnd) : Type 0 where
  pub bytes : List ℕ
  pub count : length bytes ≡ n
  pub stored : exit ≡ lay out 0 bytes
  pub holds : At s e.c
  pub fits : SFits w16 e.last
  pub near : e.c.pos ≤ p + 112 * n
  pub rest : (m : ℕ) → good_steps (read_steps (n + m) (bit_at s) p) ≡ true
      → bytes_from shift level (n + m) (read_steps (n + m) (bit_at s) p) before ≡ bytes ++ bytes_from shift level m (read_steps m (bit_at s) e.c.pos) e.last
  pub ends : (m : ℕ) → good_steps (read_steps (n + m) (bit_at s) p) ≡ true → dc_bit (read_steps (n + m) (bit_at s) p) ≡ dc_bit (read_steps m (bit_at s) e.c.pos)

-- two rows of n blocks by these DC codes: the bytes stored in them, and the byte q after the codes
pub record Stored (shift place n : ℕ) (upper upper' lower lower' : List ℕ) (x : DcSteps) (q : ℕ) : Type 0 where
  pub end : accepted q ≡ dc_end x
  pub above : upper' ≡ lay upper 0 (take n (preview_bytes shift place (2 * n) (step_list x)))
  pub below : lower' ≡ lay lower 0 (drop n (preview_bytes shift place (2 * n) (step_list x)))
