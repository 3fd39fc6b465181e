-- The sums of the rows, lane by lane: the two halves of each row.
use mathlib.Core.Path.{◌≡◌, refl, sym, ap, ◌∙◌}
use mathlib.Core.Bool.{Bool, true, false}
use mathlib.Core.List.{List, ◌++◌}
use Prim.Native.Nat.{ℕ, ◌+◌, ◌-◌, ◌*◌, ◌/◌, ◌%◌, ◌<◌, ◌≤◌}
use native.Mathlib.Omega.{arith}
use lib.Dec.{ltb}
use lib.IntN.{ℤ, pos}
use lib.ListN.{length}
use borrow.Author.Tests.{ltb-true, ltb-false}
use Rattle.scalar.specs.Named.{◌▸◌}
use Rattle.scalar.specs.Scalar.{sat16, sra_of, add32_of, sub32_of}
use Rattle.scalar.specs.Tab.{lane}
use Rattle.scalar.proofs.Fill.{length_tab, get_d_tab}
use Rattle.scalar.proofs.InRows.{row_of_lem, col_of}
use Rattle.lanes.specs.Lanes.{mm_set1_epi32, mm_add_epi32, mm_sub_epi32, mm_srai_epi32, mm_packs_epi32}
use Rattle.lanes.specs.rows.Block.{wide_of, block_of}
use Rattle.lanes.proofs.packs.Halves.{joined_low, joined_high}
use Rattle.lanes.proofs.rows.Loops.{by_place}
use Rattle.irow.specs.sums.Rows.{sums_row}
use Rattle.irow.specs.sums.Sums.{even_part_of, inverse_lane_of, inverse_half_of, pick_z, side_of, rows_from}
use Rattle.irow.proofs.sums.Sums.{half_at}

-- ---- four lanes

splat_at : (v : ℤ) (k : ℕ) → k < 4 → lane (mm_set1_epi32 v) k ≡ v
unfolding mm_set1_epi32
splat_at v k h = get_d_tab 4 (λ i. v) k (pos 0) h

add_at : (a b : List ℤ) (k : ℕ) {x y : ℤ} → k < 4 → lane a k ≡ x → lane b k ≡ y → lane (mm_add_epi32 a b) k ≡ add32_of x y
unfolding mm_add_epi32
add_at a b k h p q = get_d_tab 4 (λ i. add32_of (lane a i) (lane b i)) k (pos 0) h ∙ rw (p, q) refl

sub_at : (a b : List ℤ) (k : ℕ) {x y : ℤ} → k < 4 → lane a k ≡ x → lane b k ≡ y → lane (mm_sub_epi32 a b) k ≡ sub32_of x y
unfolding mm_sub_epi32
sub_at a b k h p q = get_d_tab 4 (λ i. sub32_of (lane a i) (lane b i)) k (pos 0) h ∙ rw (p, q) refl

srai_at : (a : List ℤ) (n k : ℕ) {x : ℤ} → k < 4 → lane a k ≡ x → lane (mm_srai_epi32 a n) k ≡ sra_of x n
unfolding mm_srai_epi32
srai_at a n k h p = get_d_tab 4 (λ i. sra_of (lane a i) n) k (pos 0) h ∙ rw p refl

srai_length : (a : List ℤ) (n : ℕ) → length (mm_srai_epi32 a n) ≡ 4
unfolding mm_srai_epi32
srai_length a n = length_tab 4 (λ i. sra_of (lane a i) n)

packs_at : (a b : List ℤ) (k : ℕ) → k < 8 → lane (mm_packs_epi32 a b) k ≡ sat16 (lane (a ++ b) k)
unfolding mm_packs_epi32
packs_at a b k h = get_d_tab 8 (λ i. sat16 (lane (a ++ b) i)) k (pos 0) h

wide_at : (m : List ℤ) (r k : ℕ) → k < 4 → lane (wide_of m r) k ≡ lane m (4 * r + k)
unfolding wide_of
wide_at m r k h = get_d_tab 4 (λ i. lane m (4 * r + i)) k (pos 0) h

-- ---- a row

module _ (round : ℤ) (shift : ℕ) (x0 x1 x2 x3 : List ℤ) where
  abbrev even : List ℤ
  even = mm_add_epi32 (mm_add_epi32 x0 (mm_set1_epi32 round)) x1

  abbrev odd : List ℤ
  odd = mm_add_epi32 x2 x3

  abbrev low : List ℤ
  low = mm_srai_epi32 (mm_add_epi32 even odd) shift

  abbrev high : List ℤ
  high = mm_srai_epi32 (mm_sub_epi32 even odd) shift

  abbrev number : Bool → ℕ → ℤ
  number right k = inverse_lane_of right round shift (lane x0 k) (lane x1 k) (lane x2 k) (lane x3 k)

  even_at : (k : ℕ) → k < 4 → lane even k ≡ even_part_of round (lane x0 k) (lane x1 k)
  unfolding even_part_of
  even_at k h = add_at (mm_add_epi32 x0 (mm_set1_epi32 round)) x1 k h (add_at x0 (mm_set1_epi32 round) k h refl (splat_at round k h)) refl

  odd_at : (k : ℕ) → k < 4 → lane odd k ≡ add32_of (lane x2 k) (lane x3 k)
  odd_at k h = add_at x2 x3 k h refl refl

  low_at : (k : ℕ) → k < 4 → sat16 (lane (low ++ high) k) ≡ number false k
  unfolding inverse_lane_of
  low_at k h =
      ap sat16 (joined_low low high k (srai_length (mm_add_epi32 even odd) shift) h ∙ srai_at (mm_add_epi32 even odd) shift k h (add_at even odd k h (even_at k h) (odd_at k h)))

  high_at : (k : ℕ) → 4 ≤ k → k < 8 → sat16 (lane (low ++ high) k) ≡ number true (k - 4)
  unfolding inverse_lane_of
  high_at k l h =
      let m : k - 4 < 4 = omega arith in
      ap sat16 (joined_high low high k (srai_length (mm_add_epi32 even odd) shift) l ∙ srai_at (mm_sub_epi32 even odd) shift (k - 4) m (sub_at even odd (k - 4) m (even_at (k - 4) m) (odd_at (k - 4) m)))

  pub sums_at : (k : ℕ) → k < 8 → lane (sums_row round shift x0 x1 x2 x3) k ≡ pick_z (ltb k 4) (number false k) (number true (k - 4))
  unfolding sums_row ◌▸◌
  sums_at k h = packs_at low high k h ∙ go (ltb k 4) refl
    where
      go : (t : Bool) → ltb k 4 ≡ t → sat16 (lane (low ++ high) k) ≡ pick_z t (number false k) (number true (k - 4))
      go true e = low_at k (ltb-true k 4 e)
      go false e = high_at k (ltb-false k 4 e) h

-- the calls of a depth's row_sums
pub row_law : (round : ℤ) (shift : ℕ) (x0 x1 x2 x3 : List ℤ) {h p e o s l d m r : List ℤ} → h ≡ mm_set1_epi32 round → p ≡ mm_add_epi32 x0 h → e ≡ mm_add_epi32 p x1 → o ≡ mm_add_epi32 x2 x3
    → s ≡ mm_add_epi32 e o → l ≡ mm_srai_epi32 s shift → d ≡ mm_sub_epi32 e o → m ≡ mm_srai_epi32 d shift → r ≡ mm_packs_epi32 l m → r ≡ sums_row round shift x0 x1 x2 x3
unfolding sums_row ◌▸◌
row_law round shift x0 x1 x2 x3 eh ep ee eo es el ed em er = rw (er, el, em, es, ed, ee, eo, ep, eh) refl

-- ---- all rows

module _ (round : ℤ) (shift : ℕ) (m0 m1 m2 m3 : List ℤ) where
  abbrev pub row_at : ℕ → List ℤ
  row_at r = sums_row round shift (wide_of m0 r) (wide_of m1 r) (wide_of m2 r) (wide_of m3 r)

  -- the calls of one turn
  pub row_of_calls : (r : ℕ) {x0 x1 x2 x3 y : List ℤ} → x0 ≡ wide_of m0 r → x1 ≡ wide_of m1 r → x2 ≡ wide_of m2 r → x3 ≡ wide_of m3 r → y ≡ sums_row round shift x0 x1 x2 x3 → y ≡ row_at r
  row_of_calls r e0 e1 e2 e3 e = rw (e, e0, e1, e2, e3) refl

  abbrev half : Bool → List ℤ
  half right = inverse_half_of right round shift m0 m1 m2 m3

  half_lane : (right : Bool) (r k : ℕ) → r < 8 → k < 4 → number round shift (wide_of m0 r) (wide_of m1 r) (wide_of m2 r) (wide_of m3 r) right k ≡ lane (half right) (4 * r + k)
  half_lane right r k hr hk =
      sym (half_at right round shift m0 m1 m2 m3 (4 * r + k) (omega arith) (sym (wide_at m0 r k hk)) (sym (wide_at m1 r k hk)) (sym (wide_at m2 r k hk)) (sym (wide_at m3 r k hk)))

  either : (r k : ℕ) (t : Bool) → r < 8 → k < 8 → ltb k 4 ≡ t
      → pick_z t (number round shift (wide_of m0 r) (wide_of m1 r) (wide_of m2 r) (wide_of m3 r) false k) (number round shift (wide_of m0 r) (wide_of m1 r) (wide_of m2 r) (wide_of m3 r) true (k - 4))
      ≡ pick_z t (lane (half false) (4 * r + k)) (lane (half true) (4 * r + (k - 4)))
  either r k true hr hk e = half_lane false r k hr (ltb-true k 4 e)
  either r k false hr hk e =
      let l : 4 ≤ k = ltb-false k 4 e in
      half_lane true r (k - 4) hr (omega arith)

  pub sums_law : block_of row_at ≡ rows_from round shift m0 m1 m2 m3
  unfolding side_of
  sums_law =
      by_place row_at (λ i. pick_z (ltb (i % 8) 4) (lane (half false) (4 * (i / 8) + i % 8)) (lane (half true) (4 * (i / 8) + (i % 8 - 4))))
      (λ r k hr hk.
      sums_at round shift (wide_of m0 r) (wide_of m1 r) (wide_of m2 r) (wide_of m3 r) k hk ∙ either r k (ltb k 4) hr hk refl ∙ rw (row_of_lem r k hk, col_of r k hk) refl)
