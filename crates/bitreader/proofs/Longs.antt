-- A code of any length, after a look that found a longer one. Assumes nothing.
use mathlib.Core.Path.{◌≡◌, refl, sym, ap}
use mathlib.Core.Bool.{false}
use mathlib.Core.List.{List}
use Prim.Native.Nat.{ℕ, ◌+◌, ◌-◌, ◌≤◌, ◌<◌, ◌^◌}
use native.Mathlib.Omega.{arith}
use lib.Count.{count_leading_zeros}
use Rattle.std.specs.Prelude.{Some}
use Rattle.bits.specs.Bits.{bit, bit_at}
use Rattle.bits.specs.Read.{read_tail}
use Rattle.bitreader.specs.words.Word.{number_of}
use Rattle.bitreader.specs.Cursor.{Next, SymbolGot, DcGot, long_of}
use Rattle.bitreader.specs.declared.AcCursor.{AcCursor}
use Rattle.bitreader.proofs.Spans.{symbol_long, dc_long, long_size, dc_size}
use Rattle.bitreader.proofs.Looks.{at_none, bit_most}

long_next : (s : List ℕ) (c : AcCursor) (r v : ℕ) → r ≡ bit (bit_at s c.pos) → 0 < v → 64 - count_leading_zeros 64 v ≤ 56 → v < 2 ^ 56 → Next s c (long_of c r v)
long_next s c r v er o high small = record {
  ready = at_none s (long_of c r v).c.pos;
  head = er;
  more = o;
  small = small;
  near = omega (arith, er, bit_most (bit_at s c.pos));
}

pub long_symbol : (s : List ℕ) (c : AcCursor) (r : ℕ) → r ≡ bit (bit_at s c.pos) → bit_at s (c.pos + r) ≡ false → (v : ℕ) → Some v ≡ number_of (read_tail (bit_at s) (c.pos + 1 + r))
    → SymbolGot s c (long_of c r v)
long_symbol s c r er z v e =
    let f = long_size (bit_at s) c.pos r er z v e in
    record { next = long_next s c r v er f.more f.high f.small; answer = symbol_long (bit_at s) c.pos r er z v e (long_of c r v).c.pos refl }

-- the same where no head counts
pub long_dc : (s : List ℕ) (c : AcCursor) → bit_at s c.pos ≡ false → (v : ℕ) → Some v ≡ number_of (read_tail (bit_at s) (c.pos + 1)) → DcGot s c (long_of c 0 v)
long_dc s c z v e =
    let f = dc_size (bit_at s) c.pos z v e in
    record { next = long_next s c 0 v (sym (ap bit z)) f.more f.high f.small; answer = dc_long (bit_at s) c.pos z v e (long_of c 0 v).c.pos refl }
