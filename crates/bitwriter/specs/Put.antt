-- What a writer has written: bits in order, whole bytes in the lent buffer, the rest in the accumulator. Document 01, 'Bits and symbols'.
use Rattle.std.specs.Prelude.{◌≡◌, Bool, List, ◌++◌, ℕ, ◌+◌, ◌/◌, ◌%◌, ◌^◌, ◌≤◌, ◌<◌, length}
use Rattle.bits.specs.Bits.{bits_of, bytes_for}
use Rattle.bits.specs.Lay.{lay}
use Rattle.bits.specs.ByteRow.{bytes_bits, Bytes}
use Rattle.bitwriter.specs.declared.BitAcc.{BitAcc}

-- a writer at the byte p
abbrev pub start : ℕ → BitAcc
start p = record { acc = 0; nbits = 0; pos = p }

-- a writer that began at the byte p of o and was given the bits bs is now a, and the buffer o':
-- whole bytes ws, eight at a time, lie in it from p on, all else is as before, and the bits bs are those of ws, then those that wait.
-- By this, a and o' are one state and one buffer (wrote-same)
pub record Wrote (o : List ℕ) (p : ℕ) (bs : List Bool) (a : BitAcc) (o' : List ℕ) : Type 0 where
  pub ws : List ℕ
  pub small : Bytes ws
  pub eights : length ws % 8 ≡ 0
  pub bytes : o' ≡ lay o p ws
  pub place : a.pos ≡ p + length ws
  pub within : a.pos ≤ length o
  pub few : a.nbits < 64
  pub low : a.acc < 2 ^ a.nbits
  pub bits : bytes_bits ws ++ bits_of a.nbits a.acc ≡ bs

-- a is given the bits bs and becomes r, and the buffer o becomes o'
abbrev pub Put : BitAcc → List ℕ → List Bool → BitAcc → List ℕ → Type 0
Put a o bs r o' = Wrote o a.pos (bits_of a.nbits a.acc ++ bs) r o'

-- what a writer asks to take n bits: the whole bytes fit
pub record Room (a : BitAcc) (n : ℕ) (o : List ℕ) : Type 0 where
  pub few : a.nbits < 64
  pub low : a.acc < 2 ^ a.nbits
  pub room : a.pos + (a.nbits + n) / 8 ≤ length o

-- what it asks to end: the last byte fits too
pub record LastRoom (a : BitAcc) (o : List ℕ) : Type 0 where
  pub few : a.nbits < 64
  pub low : a.acc < 2 ^ a.nbits
  pub room : a.pos + bytes_for a.nbits ≤ length o

-- "then zero bits up to a byte": nothing waits
abbrev pub flushed : BitAcc → BitAcc
flushed a = start (a.pos + bytes_for a.nbits)
