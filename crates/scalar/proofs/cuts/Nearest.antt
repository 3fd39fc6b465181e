-- The nearest number of 16 bits: it fits them, and it is the number itself where that fits.
use mathlib.Core.Path.{◌≡◌, ap}
use native.Mathlib.Omega.{arith}
use lib.IntN.{ℤ, pos, negsuc}
use mir.Syntax.{w16}
use mir.Val.{SFits}
use Rattle.scalar.specs.cuts.Cuts.{sat16}

pub sat_mid : (s : ℤ) → SFits w16 s → s ≡ sat16 s
unfolding sat16
sat_mid (pos n) h = ap pos (omega arith)
sat_mid (negsuc n) h = ap negsuc (omega arith)

pub sat_fits : (s : ℤ) → SFits w16 (sat16 s)
unfolding sat16
sat_fits (pos n) = record { sfits = omega arith }
sat_fits (negsuc n) = record { sfits = omega arith }
