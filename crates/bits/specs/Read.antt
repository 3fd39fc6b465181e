-- How codes are read back. Document 01, 'Bits and symbols'. Numbers are raw: no cut is made here.
use Rattle.std.specs.Prelude.{Bool, true, false, ℕ, zero, suc, ◌+◌, leb}
use Rattle.bits.specs.Bits.{Stream, num}

-- question 8: "z at most 54 in every code reached?"
abbrev pub max_zeros : ℕ
max_zeros = 54

abbrev pub unless_one : Bool → ℕ → ℕ
unless_one true n = zero
unless_one false n = suc n

-- the zeros at p; no more than f are counted
unfoldable pub zeros : ℕ → Stream → ℕ → ℕ
zeros zero s p = zero
zeros (suc f) s p = unless_one (s p) (zeros f s (suc p))

-- what stands after a head: a number and the place after it, or a bad code
pub data Tail : Type 0 where
  bad_tail : Tail
  number : ℕ → ℕ → Tail

abbrev pub pick_tail : Bool → Tail → Tail → Tail
pick_tail true a b = a
pick_tail false a b = b

-- "z zeros, then z + 2 bits"
unfoldable pub tail_at : Stream → ℕ → ℕ → Tail
tail_at s p z = pick_tail (leb z max_zeros) (number (num (suc (suc z)) 0 s (p + z)) (p + z + suc (suc z))) bad_tail

unfoldable pub read_tail : Stream → ℕ → Tail
read_tail s p = tail_at s p (zeros (suc max_zeros) s p)

-- a symbol of the AC stream and the place after it
pub data Symbol : Type 0 where
  bad_symbol : Symbol
  run : ℕ → ℕ → Symbol
  value : ℕ → ℕ → Symbol

abbrev pub as_run : Tail → Symbol
as_run bad_tail = bad_symbol
as_run (number n q) = run n q

abbrev pub as_value : Tail → Symbol
as_value bad_tail = bad_symbol
as_value (number c q) = value c q

-- "after the head (`0` value, `10` run, `11` run of 1)"
abbrev pub by_head : Stream → ℕ → Bool → Bool → Symbol
by_head s p false b = as_value (read_tail s (suc p))
by_head s p true false = as_run (read_tail s (suc (suc p)))
by_head s p true true = run 1 (suc (suc p))

unfoldable pub read_symbol : Stream → ℕ → Symbol
read_symbol s p = by_head s p (s p) (s (suc p))

-- a code of the DC stream and the place after it
pub data DcCode : Type 0 where
  bad_dc : DcCode
  zero_step : ℕ → DcCode
  step : ℕ → ℕ → DcCode

abbrev pub as_step : Tail → DcCode
as_step bad_tail = bad_dc
as_step (number c q) = step c q

-- "A DC code whose first bit is one is a zero step, its second bit ignored."
abbrev pub by_first : Stream → ℕ → Bool → DcCode
by_first s p true = zero_step (suc (suc p))
by_first s p false = as_step (read_tail s (suc p))

unfoldable pub read_dc : Stream → ℕ → DcCode
read_dc s p = by_first s p (s p)
