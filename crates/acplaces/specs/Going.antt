-- Within a block: what is still to be read from here, after the coefficients that are in their places, is the whole block.
use Rattle.std.specs.Prelude.{◌≡◌, List, ◌++◌, ℕ, ◌+◌, ◌-◌, ◌*◌, ◌^◌, ◌≤◌, ◌<◌, ℤ, pos, length, replicate}
use Rattle.bits.specs.Bits.{bit_at}
use Rattle.bitreader.specs.Cursor.{At}
use Rattle.bitreader.specs.declared.AcCursor.{AcCursor}
use Rattle.quant.specs.Quantise.{scan_of}
use Rattle.calls.specs.ReadPlane.{Places, bad_places, places, read_places}
use Rattle.bitreader.specs.declared.Stop.{Stop}

-- coefficients before those of the places read
abbrev pub behind : List ℤ → Places → Places
behind xs bad_places = bad_places
behind xs (places cs q r) = places (xs ++ cs) q r

-- the cursor c is at a place of the block at p, after whose first zeros r come; nat has what was got, and zeros after it
pub record Going (s : List ℕ) (p r : ℕ) (c : AcCursor) (place : ℕ) (nat : List ℤ) : Type 0 where
  pub got : List ℤ
  pub same : read_places 64 (bit_at s) p r ≡ behind got (read_places (64 - place) (bit_at s) c.pos (place - 64))
  pub scan : scan_of nat ≡ got ++ replicate (64 - place) (pos 0)
  pub count : length nat ≡ 64
  pub holds : At s c
  pub step : c.pos ≤ p + 112 * place
  pub near : c.pos ≤ p + 7168
  pub few : place < 2 ^ 57

-- from a to b some symbols were read, or none: wherever reading stood at a, it stands at b
pub record Onward (a : Stop) (nat : List ℤ) (b : Stop) (nat' : List ℤ) : Type 0 where
  pub goes : (s : List ℕ) (p r : ℕ) → Going s p r a.c a.place nat → Going s p r b.c b.place nat'
  pub on : a.place ≤ b.place
  pub none : b.c.pos ≡ a.c.pos → b.place ≡ a.place
  pub some : a.c.pos < b.c.pos → a.place < b.place
  pub up : a.c.pos ≤ b.c.pos
