-- A cursor over a stream, and what it reads. Document 01, 'Bits and symbols'; "BitReader and AcCursor: stream and position passed separately".
use Rattle.std.specs.Prelude.{◌≡◌, false, List, Option, Some, None, Result, Ok, Err, ℕ, zero, suc, ◌+◌, ◌-◌, ◌*◌, ◌/◌, ◌^◌, ◌≤◌, ◌<◌}
use Rattle.std.specs.Int.Count.{count_leading_zeros}
use Rattle.bits.specs.Bits.{bit, bit_at}
use Rattle.bits.specs.Read.{Symbol, bad_symbol, run, value, read_symbol, DcCode, bad_dc, zero_step, step, read_dc}
use Rattle.bitreader.specs.words.Word.{Holds}
use Rattle.bitreader.specs.declared.AcCursor.{AcCursor}
use Rattle.bitreader.specs.declared.Got.{Got}
use Rattle.bitreader.specs.declared.BadCode.{BadCode}

-- the cursor holds the bits of s at its place
pub record At (s : List ℕ) (c : AcCursor) : Type 0 where
  pub most : c.count ≤ 64
  pub holds : Holds s c.pos c.count c.bits

-- the symbol that was got: its number, its head bit, the place after it
abbrev pub symbol_by : ℕ → ℕ → ℕ → Symbol
symbol_by n zero q = value n q
symbol_by n (suc r) q = run n q

-- the same of a code of the DC stream
abbrev pub dc_by : ℕ → ℕ → ℕ → DcCode
dc_by n zero q = step n q
dc_by n (suc r) q = zero_step q

-- what holds of all that is got at the cursor c: the next cursor, at most 112 bits on; the head bit; a number above 0, of at most 56 bits
pub record Next (s : List ℕ) (c : AcCursor) (g : Got) : Type 0 where
  pub ready : At s g.c
  pub head : g.run ≡ bit (bit_at s c.pos)
  pub more : 0 < g.num
  pub small : g.num < 2 ^ 56
  pub near : g.c.pos ≤ c.pos + 112

pub record SymbolGot (s : List ℕ) (c : AcCursor) (g : Got) : Type 0 where
  pub next : Next s c g
  pub answer : symbol_by g.num g.run g.c.pos ≡ read_symbol (bit_at s) c.pos

pub record DcGot (s : List ℕ) (c : AcCursor) (g : Got) : Type 0 where
  pub next : Next s c g
  pub answer : dc_by g.num g.run g.c.pos ≡ read_dc (bit_at s) c.pos

-- what holds of a bad code at the cursor c: the cursor handed back, at the same place; the head bit
pub record BadAt (s : List ℕ) (c : AcCursor) (b : BadCode) : Type 0 where
  pub ready : At s b.c
  pub head : b.run ≡ bit (bit_at s c.pos)
  pub stays : b.c.pos ≡ c.pos

-- the symbol at c, or a bad code
abbrev pub NextSymbol : List ℕ → AcCursor → Result Got BadCode → Type 0
NextSymbol s c (Err b) = BadAt s c b × (bad_symbol ≡ read_symbol (bit_at s) c.pos)
NextSymbol s c (Ok g) = SymbolGot s c g

-- the code of the DC stream at c, or a bad code
abbrev pub NextDc : List ℕ → AcCursor → Result Got BadCode → Type 0
NextDc s c (Err b) = BadAt s c b × (bad_dc ≡ read_dc (bit_at s) c.pos)
NextDc s c (Ok g) = DcGot s c g

-- ---- inner functions

-- what was got by the number v after the head r at c
abbrev pub long_of : AcCursor → ℕ → ℕ → Got
long_of c r v = record { run = r; num = v; c = record { pos = c.pos + (2 * (64 - count_leading_zeros 64 v) + r - 1); bits = 0; count = 0 } }

-- a symbol that ends within the word of c, whatever stream it is of
pub record Inside (c : AcCursor) (g : Got) : Type 0 where
  pub symbol : (s : List ℕ) → At s c → SymbolGot s c g
  pub some : c.pos < g.c.pos
  pub near : g.c.pos ≤ c.pos + 64
  pub count : g.c.count ≤ 64
  pub more : 0 < g.num
  pub small : g.num < 2 ^ 56

-- no symbol ends within the word of c, whatever stream it is of: its first bit is the head, and a zero stands after that
pub record NotInside (c : AcCursor) : Type 0 where
  pub head : (s : List ℕ) → At s c → 0 < c.count → c.bits / 2 ^ 63 ≡ bit (bit_at s c.pos)
  pub long : (s : List ℕ) → At s c → 2 < c.count → bit_at s (c.pos + c.bits / 2 ^ 63) ≡ false

-- a look at the word alone: a symbol that ends within it, or none
abbrev pub Seen : AcCursor → Option Got → Type 0
Seen c None = NotInside c
Seen c (Some g) = Inside c g

-- the same of the DC stream, by 31 bits
abbrev pub SeenDc : AcCursor → Option Got → Type 0
SeenDc c None = (s : List ℕ) → At s c → bit_at s c.pos ≡ false
SeenDc c (Some g) = (s : List ℕ) → At s c → DcGot s c g
