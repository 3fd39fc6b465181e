-- How large the coefficients of a quantised block are, for any block of numbers of 16 bits.
use mathlib.Core.Path.{◌≡◌, ap, ◌∙◌}
use mathlib.Core.List.{List}
use Prim.Native.Nat.{ℕ, ◌≤◌, ◌<◌}
use lib.Dec.{lit<}
use lib.IntN.{ℤ, nat_abs}
use mir.Syntax.{w16}
use mir.Val.{SFits}
use Rattle.tables.specs.Divisor.{divisor}
use Rattle.tables.specs.Reciprocal.{rounded}
use Rattle.tables.specs.Zigzag.{zigzag_at}
use Rattle.tables.proofs.Rounding.{rounded_bound, rounded_last}
use Rattle.tables.proofs.Scan.{zigzag_below, zigzag_last}
use Rattle.quant.specs.Quantise.{coefficient, rounded_division, quantise_of, scan_of}
use Rattle.quant.proofs.one.Signs.{with_sign_abs, magnitude_small}
use Rattle.quant.proofs.Blocks.{quantise_at, scan_at}

module _ (p : ℕ) (hp : p < 25) (l : List ℤ) (h : (j : ℕ) → j < 64 → SFits w16 (coefficient l j)) where
  magnitude_at : (j : ℕ) → j < 64 → nat_abs (coefficient (quantise_of p l) j) ≡ rounded (nat_abs (coefficient l j)) (divisor p j)
  unfolding rounded_division
  magnitude_at j k = ap nat_abs (quantise_at p l j k) ∙ with_sign_abs (coefficient l j) (rounded (nat_abs (coefficient l j)) (divisor p j))

  -- natural order
  pub quantised_bound : (j : ℕ) → j < 64 → nat_abs (coefficient (quantise_of p l) j) ≤ 2048
  quantised_bound j k = rw (magnitude_at j k) (rounded_bound p j hp k (nat_abs (coefficient l j)) (magnitude_small (coefficient l j) (h j k)))

  -- scan order: "a quantised coefficient lies between -2,048 and 2,048"
  pub scanned_bound : (i : ℕ) → i < 64 → nat_abs (coefficient (scan_of (quantise_of p l)) i) ≤ 2048
  scanned_bound i k = rw (scan_at (quantise_of p l) i k) (quantised_bound (zigzag_at i) (zigzag_below i k))

  -- the last place of the scan
  pub scanned_last : nat_abs (coefficient (scan_of (quantise_of p l)) 63) ≤ 395
  scanned_last =
      rw (scan_at (quantise_of p l) 63 (lit< tt), zigzag_last, magnitude_at 63 (lit< tt)) (rounded_last p hp (nat_abs (coefficient l 63)) (magnitude_small (coefficient l 63) (h 63 (lit< tt))))
