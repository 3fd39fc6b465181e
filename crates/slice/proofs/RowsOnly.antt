-- Samples after 16 x stride play no part: neither in the coefficients, nor do they change when rows are made.
use mathlib.Core.Path.{◌≡◌, sym, ap, ap₂, ◌∙◌}
use mathlib.Core.List.{List, ◌++◌}
use Prim.Native.Nat.{ℕ, ◌+◌, ◌*◌, ◌/◌, ◌%◌, ◌≤◌, ◌<◌}
use native.Mathlib.Nat.{mul-le-mul_right}
use native.Mathlib.Omega.{arith}
use lib.IntN.{ℤ}
use lib.ListN.{length, get_or, take}
use lib.Seq.{get_or-take}
use borrow.Author.Tests.{le-ltb}
use Rattle.scalar.proofs.Fill.{tab_ext}
use Rattle.fdct.specs.Forward.{forward_of}
use Rattle.quant.specs.Quantise.{quantise_of, scan_of}
use Rattle.paint.proofs.Over.{length_over, get_d_over}
use Rattle.calls.specs.Arguments.{Depth, is_ten, Plane}
use Rattle.calls.specs.ReadPlane.{BlockRead}
use Rattle.calls.specs.Grid.{columns_of, level}
use Rattle.slice.specs.Plane.{lane_of, lanes_at, block_coefficients, coefficients_at, reconstruct_at}

module _ (place stride : ℕ) (xs ys : List ℕ) (same : take (16 * stride) xs ≡ take (16 * stride) ys) where
  sample_same : (i : ℕ) → i < 16 * stride → get_or xs i 0 ≡ get_or ys i 0
  sample_same i h = sym (get_or-take (16 * stride) xs i 0 h) ∙ ap (λ (l : List ℕ). get_or l i 0) same ∙ get_or-take (16 * stride) ys i 0 h

  abbrev with : List ℕ → Plane
  with l = record { place = place; stride = stride; samples = l }

  -- a block of the plane lies within its 16 rows
  within : (j k i : ℕ) → j < 2 → k < columns_of stride → i < 64 → (8 * j + i / 8) * stride + (8 * k + i % 8) < 16 * stride
  within j k i hj hk hi = omega (arith, mul-le-mul_right {m = 8 * j + i / 8} {n = 15} stride (omega arith))

  lanes_same : (depth : Depth) (j k : ℕ) → j < 2 → k < columns_of stride → lanes_at depth (with xs) j k ≡ lanes_at depth (with ys) j k
  unfolding lanes_at
  lanes_same depth j k hj hk = tab_ext 64 (λ i hi. ap (lane_of depth) (sample_same ((8 * j + i / 8) * stride + (8 * k + i % 8)) (within j k i hj hk hi)))

  block_same : (depth : Depth) (preset j k : ℕ) → j < 2 → k < columns_of stride → block_coefficients depth preset (with xs) j k ≡ block_coefficients depth preset (with ys) j k
  unfolding block_coefficients
  block_same depth preset j k hj hk = ap (λ (l : List ℤ). scan_of (quantise_of preset (forward_of (is_ten depth) (level depth place) l))) (lanes_same depth j k hj hk)

  pub coefficients_same : (depth : Depth) (preset : ℕ) → coefficients_at depth preset (with xs) ≡ coefficients_at depth preset (with ys)
  unfolding coefficients_at
  coefficients_same depth preset =
      ap₂ (λ (a b : List (List ℤ)). a ++ b)
      (tab_ext (columns_of stride) (λ k h. block_same depth preset 0 k (omega arith) h))
      (tab_ext (columns_of stride) (λ k h. block_same depth preset 1 k (omega arith) h))

module _ (depth : Depth) (preset : ℕ) (p : Plane) (blocks : List BlockRead) where
  pub as_many : length (reconstruct_at depth preset p blocks) ≡ length p.samples
  unfolding reconstruct_at
  as_many = length_over _ 0 p.samples

  pub behind_stays : (i : ℕ) → 16 * p.stride ≤ i → i < length p.samples → get_or (reconstruct_at depth preset p blocks) i 0 ≡ get_or p.samples i 0
  unfolding reconstruct_at
  behind_stays i h l = get_d_over _ p.samples i l ∙ rw (le-ltb i (16 * p.stride) h)
