-- The sums of a half: wraps inside a sum that wraps change nothing.
use mathlib.Core.Path.{◌≡◌, sym, ap, ◌∙◌}
use lib.IntN.{ℤ, neg_ℤ, ◌+ℤ◌, ◌-ℤ◌, +ℤ_comm, +ℤ_assoc}
use Rattle.scalar.specs.Scalar.{wrap32}
use Rattle.scalar.proofs.Wrap.{wrap_l, wrap_r, wrap_neg}

swap : (x y z : ℤ) → (x +ℤ y) +ℤ z ≡ (x +ℤ z) +ℤ y
swap x y z = +ℤ_assoc x y z ∙ ap (λ (w : ℤ). x +ℤ w) (+ℤ_comm y z) ∙ sym (+ℤ_assoc x z y)

-- the even sums with the rounding between them, and an odd sum o
wrap_even : (a b r o : ℤ) → wrap32 (wrap32 (wrap32 (wrap32 a +ℤ r) +ℤ wrap32 b) +ℤ o) ≡ wrap32 (((a +ℤ b) +ℤ o) +ℤ r)
wrap_even a b r o =
    wrap_l (wrap32 (wrap32 a +ℤ r) +ℤ wrap32 b) o
    ∙ sym (wrap_l (wrap32 (wrap32 a +ℤ r) +ℤ wrap32 b) o)
    ∙ ap (λ (z : ℤ). wrap32 (z +ℤ o)) (ap (λ (z : ℤ). wrap32 (z +ℤ wrap32 b)) (wrap_l a r) ∙ wrap_l (a +ℤ r) (wrap32 b) ∙ wrap_r (a +ℤ r) b)
    ∙ wrap_l ((a +ℤ r) +ℤ b) o
    ∙ ap wrap32 (ap (λ (z : ℤ). z +ℤ o) (swap a r b) ∙ swap (a +ℤ b) r o)

-- the odd sum of two wrapped ones
wrap_odd : (c d : ℤ) → wrap32 (wrap32 c +ℤ wrap32 d) ≡ wrap32 (c +ℤ d)
wrap_odd c d = wrap_l c (wrap32 d) ∙ wrap_r c d

-- eight products in four wrapped pairs, the odd ones added: the wrap of the whole sum
pub wrap_sum : (a b c d r : ℤ) → wrap32 (wrap32 (wrap32 (wrap32 a +ℤ r) +ℤ wrap32 b) +ℤ wrap32 (wrap32 c +ℤ wrap32 d)) ≡ wrap32 (((a +ℤ b) +ℤ (c +ℤ d)) +ℤ r)
wrap_sum a b c d r =
    ap (λ (z : ℤ). wrap32 (wrap32 (wrap32 (wrap32 a +ℤ r) +ℤ wrap32 b) +ℤ z)) (wrap_odd c d)
    ∙ wrap_r (wrap32 (wrap32 (wrap32 a +ℤ r) +ℤ wrap32 b)) (c +ℤ d)
    ∙ wrap_even a b r (c +ℤ d)

-- the odd ones subtracted
pub wrap_diff : (a b c d r : ℤ) → wrap32 (wrap32 (wrap32 (wrap32 a +ℤ r) +ℤ wrap32 b) -ℤ wrap32 (wrap32 c +ℤ wrap32 d)) ≡ wrap32 (((a +ℤ b) -ℤ (c +ℤ d)) +ℤ r)
wrap_diff a b c d r =
    ap (λ (z : ℤ). wrap32 (wrap32 (wrap32 (wrap32 a +ℤ r) +ℤ wrap32 b) +ℤ neg_ℤ z)) (wrap_odd c d)
    ∙ wrap_neg (wrap32 (wrap32 (wrap32 a +ℤ r) +ℤ wrap32 b)) (c +ℤ d)
    ∙ wrap_even a b r (neg_ℤ (c +ℤ d))
