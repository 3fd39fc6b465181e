-- The parts of an entry, and what its symbols are.
use Rattle.std.specs.Prelude.{◌≡◌, Bool, true, false, ℕ, ◌+◌, ◌-◌, ◌/◌, ◌%◌, ◌^◌, ◌≤◌, ◌<◌, ltb, ℤ, pos, neg_ℤ}
use Rattle.bits.specs.Bits.{Stream}
use Rattle.bits.specs.Read.{run, value, read_symbol}
use Rattle.bits.specs.Signed.{signed_of}

abbrev pub taken_of : ℕ → ℕ
taken_of e = e % 64

abbrev pub before_last : ℕ → ℕ
before_last e = (e / 2 ^ 8) % 256

abbrev pub places_of : ℕ → ℕ
places_of e = (e / 2 ^ 16) % 64

-- five bits as a number from -16 to 15
abbrev pub signed_five : Bool → ℕ → ℤ
signed_five true n = pos n
signed_five false n = neg_ℤ (pos (32 - n))

abbrev pub five_at : ℕ → ℕ → ℤ
five_at i e = signed_five (ltb ((e / 2 ^ i) % 32) 16) ((e / 2 ^ i) % 32)

abbrev pub first_value : ℕ → ℤ
first_value e = five_at 27 e

abbrev pub last_value : ℕ → ℤ
last_value e = five_at 22 e

-- the symbol at p ends at q and takes m places, of which the first gets v
pub data Sym (s : Stream) (p q m : ℕ) (v : ℤ) : Type 0 where
  a_value_lem : (c : ℕ) → read_symbol s p ≡ value c q → m ≡ 1 → v ≡ signed_of c → Sym s p q m v
  a_run_lem : read_symbol s p ≡ run m q → 0 < m → v ≡ pos 0 → Sym s p q m v

-- what the entry e says of the bits at p
pub data Held (s : Stream) (p e : ℕ) : Type 0 where
  none : before_last e ≡ 64 → Held s p e
  one : 0 < taken_of e → taken_of e ≤ 10 → before_last e ≡ 0 → last_value e ≡ first_value e
      → Sym s p (p + taken_of e) (places_of e) (first_value e) → Held s p e
  two : (n : ℕ) → 0 < taken_of e → n ≤ taken_of e → taken_of e ≤ 10 → 0 < before_last e → before_last e < places_of e
      → Sym s p (p + n) (before_last e) (first_value e) → Sym s (p + n) (p + taken_of e) (places_of e - before_last e) (last_value e) → Held s p e
