-- A number of a half: its steps in order, and that it is one sum of 32 bits, rounded, shifted and saturated.
use mathlib.Core.Path.{◌≡◌, refl, ap, ◌∙◌}
use mathlib.Core.Bool.{Bool, true, false}
use mathlib.Core.List.{List}
use Prim.Native.Nat.{ℕ, ◌<◌}
use lib.IntN.{ℤ, pos, ◌+ℤ◌, ◌-ℤ◌}
use Rattle.scalar.specs.Scalar.{sat16, wrap32, sra_of, add32_of, sub32_of}
use Rattle.scalar.specs.Tab.{lane}
use Rattle.scalar.proofs.Fill.{get_d_tab}
use Rattle.irow.specs.sums.Sums.{even_part_of, inverse_lane_of, inverse_half_of}
use Rattle.irow.proofs.sums.Wrap.{wrap_sum, wrap_diff}

-- from wrapped pairs of products: the wrap of the whole sum
pub left_is : (round : ℤ) (shift : ℕ) (a b c d : ℤ)
    → inverse_lane_of false round shift (wrap32 a) (wrap32 b) (wrap32 c) (wrap32 d) ≡ sat16 (sra_of (wrap32 (((a +ℤ b) +ℤ (c +ℤ d)) +ℤ round)) shift)
unfolding inverse_lane_of even_part_of add32_of
left_is round shift a b c d = ap (λ (z : ℤ). sat16 (sra_of z shift)) (wrap_sum a b c d round)

pub right_is : (round : ℤ) (shift : ℕ) (a b c d : ℤ)
    → inverse_lane_of true round shift (wrap32 a) (wrap32 b) (wrap32 c) (wrap32 d) ≡ sat16 (sra_of (wrap32 (((a +ℤ b) -ℤ (c +ℤ d)) +ℤ round)) shift)
unfolding inverse_lane_of even_part_of add32_of sub32_of
right_is round shift a b c d = ap (λ (z : ℤ). sat16 (sra_of z shift)) (wrap_diff a b c d round)

pub half_at : (right : Bool) (round : ℤ) (shift : ℕ) (m0 m1 m2 m3 : List ℤ) (j : ℕ) {x y u v : ℤ} → j < 32
    → lane m0 j ≡ x → lane m1 j ≡ y → lane m2 j ≡ u → lane m3 j ≡ v → lane (inverse_half_of right round shift m0 m1 m2 m3) j ≡ inverse_lane_of right round shift x y u v
unfolding inverse_half_of
half_at right round shift m0 m1 m2 m3 j h p q r s =
    get_d_tab 32 (λ i. inverse_lane_of right round shift (lane m0 i) (lane m1 i) (lane m2 i) (lane m3 i)) j (pos 0) h ∙ rw (p, q, r, s) refl
