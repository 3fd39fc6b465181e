-- Within a block: what is still to be read from here ends where the whole block ends.
use Rattle.std.specs.Prelude.{◌≡◌, List, Option, Some, ℕ, ◌+◌, ◌-◌, ◌*◌, ◌^◌, ◌≤◌, ◌<◌, length}
use Rattle.std.specs.Borrow.{Bor}
use Rattle.bits.specs.Bits.{bit_at}
use Rattle.bitreader.specs.Cursor.{At}
use Rattle.bitreader.specs.declared.AcCursor.{AcCursor}
use Rattle.acpairs.specs.Pairs.{Looks}
use Rattle.calls.specs.ReadPlane.{read_places}
use Rattle.acread.specs.Block.{ends_of}
use Rattle.bitreader.specs.declared.Stop.{Stop}

-- a table, if there is one, is of all looks
abbrev pub LooksIn : Option (Bor (List ℕ)) → Type 0
LooksIn o = (t : Bor (List ℕ)) → o ≡ Some t → (1024 ≤ length t.now) × Looks t.now

-- the cursor c stands at a place of the block at p, after whose first zeros r come
pub record Going (s : List ℕ) (p r : ℕ) (c : AcCursor) (place : ℕ) : Type 0 where
  pub same : ends_of (read_places 64 (bit_at s) p r) ≡ ends_of (read_places (64 - place) (bit_at s) c.pos (place - 64))
  pub holds : At s c
  pub step : c.pos ≤ p + 112 * place
  pub near : c.pos ≤ p + 7168
  pub few : place < 2 ^ 57

-- from a to b some symbols were read, or none: wherever reading stood at a, it stands at b
pub record Onward (a b : Stop) : Type 0 where
  pub goes : (s : List ℕ) (p r : ℕ) → Going s p r a.c a.place → Going s p r b.c b.place
  pub on : a.place ≤ b.place
