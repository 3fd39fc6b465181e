-- Where reading a block's places ends. Document 01, 'Plane and slice'.
use Rattle.std.specs.Prelude.{◌≡◌, not, cond, List, Option, Some, None, ℕ, zero, suc, ◌+◌, ◌^◌, ◌≤◌, ◌<◌, ltb}
use Rattle.bits.specs.Bits.{bit_at}
use Rattle.bitreader.specs.Cursor.{At}
use Rattle.bitreader.specs.declared.AcCursor.{AcCursor}
use Rattle.calls.specs.ReadPlane.{Places, bad_places, places, read_places}
use Rattle.acread.specs.declared.BlockEnd.{BlockEnd}

-- the places of a symbol, by its head bit and its number
abbrev pub span_of : ℕ → ℕ → ℕ
span_of zero n = 1
span_of (suc h) n = n

-- "flat (byte 1, else 0) when no AC symbol was read for it": r zeros still to come as the block begins
abbrev pub flat_byte : ℕ → ℕ
flat_byte r = cond (not (ltb r 64)) 1 0

-- the end of the places read, without their coefficients
pub data Ends : Type 0 where
  bad_ends : Ends
  ends : ℕ → ℕ → Ends

abbrev pub ends_of : Places → Ends
ends_of bad_places = bad_ends
ends_of (places cs q r) = ends q r

abbrev pub block_says : Option BlockEnd → Ends
block_says (Some e) = ends e.c.pos e.pending
block_says None = bad_ends

-- a cursor after the block at p: at most 64 codes of 112 bits were read
pub record AcReady (s : List ℕ) (p : ℕ) (c : AcCursor) (n : ℕ) : Type 0 where
  pub holds : At s c
  pub near : c.pos ≤ p + 7168
  pub few : n < 2 ^ 57

pub record BlockEnded (s : List ℕ) (p r : ℕ) (o : Option BlockEnd) : Type 0 where
  pub answer : block_says o ≡ ends_of (read_places 64 (bit_at s) p r)
  pub ready : (e : BlockEnd) → o ≡ Some e → AcReady s p e.c e.pending
