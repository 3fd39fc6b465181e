-- What the two high multiplies make of a coefficient with the numbers of its place.
use mathlib.Core.Path.{◌≡◌, ap}
use mathlib.Core.List.{List}
use Prim.Native.Nat.{ℕ, ◌+◌, ◌<◌}
use native.Mathlib.Omega.{arith}
use lib.IntN.{ℤ, nat_abs}
use lib.ListN.{get_or}
use mir.Syntax.{w16}
use mir.Val.{SFits}
use Rattle.tables.specs.Divisor.{divisor}
use Rattle.tables.specs.Reciprocal.{two_high, rounded}
use Rattle.tables.specs.Entries.{encode_of}
use Rattle.tables.proofs.Rounding.{entry_rounds, correction_small, rounded_bound}
use Rattle.tables.proofs.Places.{encode_correction, encode_reciprocal, encode_scale}
use Rattle.quant.specs.Quantise.{with_sign, rounded_division}
use Rattle.quant.proofs.one.Signs.{magnitude_small}

module _ (p i : ℕ) (k : List ℕ) (x : ℤ) (hp : p < 25) (hi : i < 64) (e : k ≡ encode_of p) (h : SFits w16 x) where
  multiplied : two_high (get_or k i 0) (get_or k (64 + i) 0) (get_or k (128 + i) 0) (nat_abs x) ≡ rounded (nat_abs x) (divisor p i)
  multiplied =
      rw (encode_correction p i k e hi, encode_reciprocal p i k e hi, encode_scale p i k e hi)
      (entry_rounds p i hp hi (nat_abs x) (magnitude_small x h))

  pub entry_needs : (get_or k i 0 < 32768) × (two_high (get_or k i 0) (get_or k (64 + i) 0) (get_or k (128 + i) 0) (nat_abs x) < 32768)
  entry_needs = (
    rw (encode_correction p i k e hi) (correction_small p i hp hi),
    rw multiplied (omega (arith, rounded_bound p i hp hi (nat_abs x) (magnitude_small x h))),
  )

  pub entry_divides : with_sign x (two_high (get_or k i 0) (get_or k (64 + i) 0) (get_or k (128 + i) 0) (nat_abs x)) ≡ rounded_division x (divisor p i)
  unfolding rounded_division
  entry_divides = ap (with_sign x) multiplied
