-- The sum of a coefficient: wraps inside a sum that wraps change nothing.
use mathlib.Core.Path.{◌≡◌, sym, ap, ◌∙◌}
use lib.IntN.{ℤ, ◌+ℤ◌, +ℤ_assoc}
use Rattle.scalar.specs.Scalar.{wrap32}
use Rattle.scalar.proofs.Wrap.{wrap_l, wrap_r}

-- two sums of pairs, each wrapped, and a rounding: the wrap of the whole sum
pub four : (a b c d r : ℤ) → wrap32 (wrap32 (wrap32 (a +ℤ b) +ℤ wrap32 (c +ℤ d)) +ℤ r) ≡ wrap32 (a +ℤ b +ℤ c +ℤ d +ℤ r)
four a b c d r =
    ap (λ (z : ℤ). wrap32 (z +ℤ r)) (wrap_l (a +ℤ b) (wrap32 (c +ℤ d)) ∙ wrap_r (a +ℤ b) (c +ℤ d) ∙ ap wrap32 (sym (+ℤ_assoc (a +ℤ b) c d)))
    ∙ wrap_l (a +ℤ b +ℤ c +ℤ d) r
