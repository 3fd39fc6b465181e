-- Bytes with a bit each: eight of them sum to a byte of the mask.
use mathlib.Core.Path.{◌≡◌, refl, ap, ◌∙◌}
use mathlib.Core.List.{List}
use Prim.Native.Nat.{ℕ, zero, suc, ◌+◌, ◌*◌, ◌%◌, ◌^◌, ◌<◌, ◌≤◌}
use native.Mathlib.Omega.{arith}
use lib.IntN.{ℤ, pos, negsuc}
use lib.ListN.{length, get_or, drop, drop_of_length-le}
use lib.Seq.{drop-cons}
use Rattle.scalar.specs.Tab.{lane}
use Rattle.scalar.proofs.Fill.{get_d_tab}
use Rattle.shuffles.specs.mask.Mask.{flag, nonzero_mask, weighed, Light, eight_from, half_from}

pub weigh_zero : (x : ℤ) (w : ℕ) → x ≡ pos 0 → 0 ≡ flag x * w
unfolding flag
weigh_zero x w e = rw e (omega arith)

pub weigh_other : (x : ℤ) (w : ℕ) → (x ≡ pos 0 → ⊥) → w ≡ flag x * w
unfolding flag
weigh_other (pos zero) w h = absurd (h refl)
weigh_other (pos (suc n)) w h = omega arith
weigh_other (negsuc n) w h = omega arith

weigh_le : (x : ℤ) (w : ℕ) → flag x * w ≤ w
unfolding flag
weigh_le (pos zero) w = omega arith
weigh_le (pos (suc n)) w = omega arith
weigh_le (negsuc n) w = omega arith

-- ---- the bytes of a block
pub light : (z : List ℤ) → Light (weighed z)
unfolding weighed
light z k h = rw (get_d_tab 64 (λ (i : ℕ). flag (lane z i) * 2 ^ (i % 8)) k 0 h) (weigh_le (lane z k) (2 ^ (k % 8)))

-- ---- the mask by eights
module _ (z : List ℤ) (n : length z ≡ 64) where
  step : (i j : ℕ) → i < 64 → j ≡ suc i → nonzero_mask (drop i z) ≡ flag (lane z i) + 2 * nonzero_mask (drop j z)
  unfolding nonzero_mask
  step i j h e = rw e (ap nonzero_mask (drop-cons z i (pos 0) (omega arith)))

  weight_at : (p k : ℕ) → p % 8 ≡ 0 → p + 8 ≤ 64 → k < 8 → get_or (weighed z) (p + k) 0 ≡ flag (lane z (p + k)) * 2 ^ k
  unfolding weighed
  weight_at p k e h i =
      let q : (p + k) % 8 ≡ k = omega arith in
      get_d_tab 64 (λ (x : ℕ). flag (lane z x) * 2 ^ (x % 8)) (p + k) 0 (omega arith) ∙ ap (λ (x : ℕ). flag (lane z (p + k)) * 2 ^ x) q

  weight_first : (p : ℕ) → p % 8 ≡ 0 → p + 8 ≤ 64 → get_or (weighed z) p 0 ≡ flag (lane z p) * 1
  unfolding weighed
  weight_first p e h = get_d_tab 64 (λ (x : ℕ). flag (lane z x) * 2 ^ (x % 8)) p 0 (omega arith) ∙ ap (λ (x : ℕ). flag (lane z p) * 2 ^ x) e

  by_eight : (p q : ℕ) → p % 8 ≡ 0 → q ≡ p + 8 → p + 8 ≤ 64 → nonzero_mask (drop p z) ≡ eight_from (weighed z) p + 256 * nonzero_mask (drop q z)
  by_eight p q e f h =
      omega (
        arith,
        step p (p + 1) (omega arith) (omega arith),
        step (p + 1) (p + 2) (omega arith) (omega arith),
        step (p + 2) (p + 3) (omega arith) (omega arith),
        step (p + 3) (p + 4) (omega arith) (omega arith),
        step (p + 4) (p + 5) (omega arith) (omega arith),
        step (p + 5) (p + 6) (omega arith) (omega arith),
        step (p + 6) (p + 7) (omega arith) (omega arith),
        step (p + 7) q (omega arith) (omega arith),
        weight_first p e h,
        weight_at p 1 e h (omega arith),
        weight_at p 2 e h (omega arith),
        weight_at p 3 e h (omega arith),
        weight_at p 4 e h (omega arith),
        weight_at p 5 e h (omega arith),
        weight_at p 6 e h (omega arith),
        weight_at p 7 e h (omega arith),
      )

  by_half_lem : (p q : ℕ) → p % 8 ≡ 0 → q ≡ p + 32 → p + 32 ≤ 64 → nonzero_mask (drop p z) ≡ half_from (weighed z) p + 4294967296 * nonzero_mask (drop q z)
  by_half_lem p q e f h =
      let a = by_eight p (p + 8) e refl (omega arith) in
      let b = by_eight (p + 8) (p + 16) (omega arith) (omega arith) (omega arith) in
      let c = by_eight (p + 16) (p + 24) (omega arith) (omega arith) (omega arith) in
      let d = by_eight (p + 24) q (omega arith) (omega arith) (omega arith) in
      four (nonzero_mask (drop q z)) (eight_from (weighed z) p) (eight_from (weighed z) (p + 8)) (eight_from (weighed z) (p + 16)) (eight_from (weighed z) (p + 24)) a b c d
    where
      four : (r s t u v : ℕ) {k l m o : ℕ} → k ≡ s + 256 * l → l ≡ t + 256 * m → m ≡ u + 256 * o → o ≡ v + 256 * r → k ≡ s + 256 * t + 65536 * u + 16777216 * v + 4294967296 * r
      four r s t u v a b c d = omega arith

  pub by_halves : {f : List ℕ} {a b : ℕ} → f ≡ weighed z → a ≡ half_from f 0 → b ≡ half_from f 32 → a + 4294967296 * b ≡ nonzero_mask z
  unfolding nonzero_mask
  by_halves {f} {a} {b} g p q =
      let none : nonzero_mask (drop 64 z) ≡ 0 = ap nonzero_mask (drop_of_length-le z {i = 64} (omega arith)) in
      let u : a ≡ half_from (weighed z) 0 = p ∙ ap (λ (l : List ℕ). half_from l 0) g in
      let v : b ≡ half_from (weighed z) 32 = q ∙ ap (λ (l : List ℕ). half_from l 32) g in
      both (nonzero_mask (drop 64 z)) (half_from (weighed z) 0) (half_from (weighed z) 32) (by_half_lem 0 32 refl refl (omega arith)) (by_half_lem 32 64 refl refl (omega arith)) none u v
    where
      both : (m s t : ℕ) {k l x y : ℕ} → k ≡ s + 4294967296 * l → l ≡ t + 4294967296 * m → m ≡ 0 → x ≡ s → y ≡ t → x + 4294967296 * y ≡ k
      both m s t e f n u v = omega arith
