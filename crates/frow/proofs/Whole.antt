-- The row pass as the code takes it is the row pass of the definition.
use mathlib.Core.Path.{◌≡◌, refl, ap, ◌∙◌}
use mathlib.Core.Bool.{Bool, true, false}
use mathlib.Core.List.{List}
use Prim.Native.Nat.{ℕ, ◌+◌, ◌*◌, ◌/◌, ◌%◌, ◌<◌}
use native.Mathlib.Omega.{arith}
use native.Mathlib.Nat.{add-zero}
use lib.IntN.{ℤ, pos, ◌*ℤ◌}
use lib.Dec.{eqb}
use mir.Val.{sel}
use borrow.Author.Tests.{eqb-true, eqb-false, eq-eqb, ne_eqb}
use Rattle.scalar.specs.Scalar.{sat16, adds_of, subs_of, madd_of, add32_of, sra_of}
use Rattle.scalar.proofs.Fill.{get_d_tab}
use Rattle.scalar.proofs.InRows.{row_of_lem, col_of}
use Rattle.lanes.proofs.rows.Loops.{by_place}
use Rattle.frow.specs.rounding.Tail.{tail_of}
use Rattle.frow.specs.rounding.Tail.{end_row, ends_of}
use Rattle.frow.specs.sides.Halves.{sums_of, diffs_of, sides_of}
use Rattle.frow.specs.declared.sides.SideBlocks.{SideBlocks}
use Rattle.frow.specs.steps.Order.{swapped_of, forward_pairs_of}
use Rattle.frow.proofs.Lanewise.{opposite_at, sums_row_lem, diffs_row, swapped_at, end_row_lem}
use Rattle.frow.specs.Rows.{at, side_at, table_at, dot_of, entry_of, near_of, far_of, coefficient_at, forward_rows_of}
use Rattle.frow.specs.Parts.{table_part}
use Rattle.frow.proofs.Wrap.{four}

tail_dot : (x0 c0 x1 c1 x2 c2 x3 c3 : ℤ) → tail_of (madd_of x0 c0 x1 c1) (madd_of x2 c2 x3 c3) ≡ dot_of x0 c0 x1 c1 x2 c2 x3 c3
unfolding tail_of madd_of add32_of dot_of
tail_dot x0 c0 x1 c1 x2 c2 x3 c3 = ap (λ (z : ℤ). sat16 (sra_of z 16)) (four (x0 *ℤ c0) (x1 *ℤ c1) (x2 *ℤ c2) (x3 *ℤ c3) (pos 32768))

-- ---- the four numbers of coefficient 2 j + o of a row, where q counts four coefficients a row

near_of_lem : (q o e : ℕ) → o < 2 → e < 2 → (2 * q + e) % 4 ≡ near_of (2 * (q % 4) + o) + e
near_of_lem q o e g h =
    let a : (2 * (q % 4) + o) % 4 / 2 ≡ q % 2 = omega arith in
    rw a (omega arith)

far_of_lem : (q o e : ℕ) → o < 2 → e < 2 → (2 * q + e + 2) % 4 ≡ far_of (2 * (q % 4) + o) + e
far_of_lem q o e g h =
    let a : (2 * (q % 4) + o) % 4 / 2 ≡ q % 2 = omega arith in
    rw a (omega arith)

odd_one : (j o : ℕ) → o < 2 → (2 * j + o) % 2 ≡ o
odd_one j o h = omega arith

table_at_lem : (o f q e j n : ℕ) → q < 32 → e < 2 → j ≡ 2 * q + e → n ≡ entry_of (2 * (q % 4) + o) + 8 * f + e → at (table_part o f) j ≡ table_at (q / 4) n
unfolding table_part
table_at_lem o f q e j n h l t g =
    let a : j / 8 ≡ q / 4 = omega arith in
    let b : j / 2 % 4 ≡ q % 4 = omega arith in
    let c : j % 2 ≡ e = omega arith in
    get_d_tab 64 _ j (pos 0) (omega arith) ∙ rw (a, b, c, g) refl

-- the place of a lane whose pair is swapped
swap_small : (j : ℕ) → 4 * (j % 8 / 4) + (j % 8 + 2) % 4 < 8
swap_small j = omega arith

swap_below : (j : ℕ) → j < 64 → 8 * (j / 8) + (4 * (j % 8 / 4) + (j % 8 + 2) % 4) < 64
swap_below j h = omega (arith, swap_small j)

swap_place : (r a m : ℕ) → m < 4 → (8 * r + (4 * a + m)) % 4 ≡ m
swap_place r a m h = omega arith

-- the even coefficients of a block (o is 0), or the odd ones (1), from the sides that are theirs
module _ (b : List ℤ) (o : ℕ) (small : o < 2) (x : List ℤ) (sides : (i u : ℕ) → i < 64 → u % 2 ≡ o → at x i ≡ side_at b (i / 8) u (i % 4)) where
  abbrev coefficient : ℕ → ℕ
  coefficient q = 2 * (q % 4) + o

  side : (i q k : ℕ) → i < 64 → i / 8 ≡ q / 4 → i % 4 ≡ k → at x i ≡ side_at b (q / 4) (coefficient q) k
  side i q k h p g = sides i (coefficient q) h (odd_one (q % 4) o small) ∙ rw (p, g) refl

  near : (q e j k : ℕ) → q < 32 → e < 2 → j ≡ 2 * q + e → (2 * q + e) % 4 ≡ k → at x j ≡ side_at b (q / 4) (coefficient q) k
  near q e j k h l t g = side j q k (omega arith) (omega arith) (omega arith)

  far : (q e j k : ℕ) → q < 32 → e < 2 → j ≡ 2 * q + e → (2 * q + e + 2) % 4 ≡ k → at (swapped_of x) j ≡ side_at b (q / 4) (coefficient q) k
  far q e j k h l t g =
      let r : j / 8 ≡ q / 4 = omega arith in
      let m : (j % 8 + 2) % 4 ≡ (2 * q + e + 2) % 4 = omega arith in
      swapped_at x j (omega arith)
      ∙ side (8 * (j / 8) + (4 * (j % 8 / 4) + (j % 8 + 2) % 4)) q k (swap_below j (omega arith)) (row_of_lem (j / 8) (4 * (j % 8 / 4) + (j % 8 + 2) % 4) (swap_small j) ∙ r)
      (swap_place (j / 8) (j % 8 / 4) ((j % 8 + 2) % 4) (omega arith) ∙ m ∙ g)

  coefficient_at_lem : (q : ℕ) → q < 32 → tail_of (at (forward_pairs_of x (table_part o 0)) q) (at (forward_pairs_of (swapped_of x) (table_part o 1)) q) ≡ coefficient_at b (q / 4) (coefficient q)
  unfolding forward_pairs_of coefficient_at
  coefficient_at_lem q l =
      rw (
        get_d_tab 32 (λ i. madd_of (at x (2 * i)) (at (table_part o 0) (2 * i)) (at x (2 * i + 1)) (at (table_part o 0) (2 * i + 1))) q (pos 0) l,
        get_d_tab 32 (λ i. madd_of (at (swapped_of x) (2 * i)) (at (table_part o 1) (2 * i)) (at (swapped_of x) (2 * i + 1)) (at (table_part o 1) (2 * i + 1))) q (pos 0) l,
      )
      (tail_dot _ _ _ _ _ _ _ _
      ∙ rw (
        near q 0 (2 * q) (near_of (coefficient q)) l (omega arith) (omega arith) (near_of_lem q o 0 small (omega arith) ∙ add-zero _),
        table_at_lem o 0 q 0 (2 * q) (entry_of (coefficient q)) l (omega arith) (omega arith) (omega arith),
        near q 1 (2 * q + 1) (near_of (coefficient q) + 1) l (omega arith) (omega arith) (near_of_lem q o 1 small (omega arith)),
        table_at_lem o 0 q 1 (2 * q + 1) (entry_of (coefficient q) + 1) l (omega arith) (omega arith) (omega arith),
        far q 0 (2 * q) (far_of (coefficient q)) l (omega arith) (omega arith) (far_of_lem q o 0 small (omega arith) ∙ add-zero _),
        table_at_lem o 1 q 0 (2 * q) (entry_of (coefficient q) + 8) l (omega arith) (omega arith) (omega arith),
        far q 1 (2 * q + 1) (far_of (coefficient q) + 1) l (omega arith) (omega arith) (far_of_lem q o 1 small (omega arith)),
        table_at_lem o 1 q 1 (2 * q + 1) (entry_of (coefficient q) + 9) l (omega arith) (omega arith) (omega arith),
      ) refl)

-- ---- the whole row pass

sum_side : (b : List ℤ) (i u : ℕ) → i < 64 → u % 2 ≡ 0 → at (sums_of b) i ≡ side_at b (i / 8) u (i % 4)
unfolding side_at
sum_side b i u h e = rw (eq-eqb (u % 2) 0 e) (opposite_at adds_of _ sums_row_lem b i h)

diff_side : (b : List ℤ) (i u : ℕ) → i < 64 → u % 2 ≡ 1 → at (diffs_of b) i ≡ side_at b (i / 8) u (i % 4)
unfolding side_at
diff_side b i u h e = rw (ne_eqb (u % 2) 0 (λ (z : u % 2 ≡ 0). omega arith)) (opposite_at subs_of _ diffs_row b i h)

module _ (b : List ℤ) where
  abbrev m0 : List ℤ
  m0 = forward_pairs_of (sums_of b) (table_part 0 0)

  abbrev m1 : List ℤ
  m1 = forward_pairs_of (swapped_of (sums_of b)) (table_part 0 1)

  abbrev m2 : List ℤ
  m2 = forward_pairs_of (diffs_of b) (table_part 1 0)

  abbrev m3 : List ℤ
  m3 = forward_pairs_of (swapped_of (diffs_of b)) (table_part 1 1)

  abbrev last_at : ℕ → ℕ → ℤ
  last_at r k = sel (eqb (k % 2) 0) (tail_of (at m0 (4 * r + k / 2)) (at m1 (4 * r + k / 2))) (tail_of (at m2 (4 * r + k / 2)) (at m3 (4 * r + k / 2)))

  last_at_lem : (r k : ℕ) → r < 8 → k < 8 → (t : Bool) → eqb (k % 2) 0 ≡ t → last_at r k ≡ coefficient_at b r k
  last_at_lem r k g h true e =
      let s : k % 2 ≡ 0 = eqb-true (k % 2) 0 e in
      let a : (4 * r + k / 2) / 4 ≡ r = omega arith in
      let c : 2 * ((4 * r + k / 2) % 4) + 0 ≡ k = omega arith in
      rw e (coefficient_at_lem b 0 (omega arith) (sums_of b) (λ i u. sum_side b i u) (4 * r + k / 2) (omega arith) ∙ rw (a, c) refl)
  last_at_lem r k g h false e =
      let s : k % 2 ≡ 0 → ⊥ = eqb-false (k % 2) 0 e in
      let o : k % 2 ≡ 1 = omega arith in
      let a : (4 * r + k / 2) / 4 ≡ r = omega arith in
      let c : 2 * ((4 * r + k / 2) % 4) + 1 ≡ k = omega arith in
      rw e (coefficient_at_lem b 1 (omega arith) (diffs_of b) (λ i u. diff_side b i u) (4 * r + k / 2) (omega arith) ∙ rw (a, c) refl)

  rows_is : ends_of m0 m1 m2 m3 ≡ forward_rows_of b
  unfolding forward_rows_of
  rows_is =
      by_place (end_row m0 m1 m2 m3) (λ i. coefficient_at b (i / 8) (i % 8))
      (λ r k g h.
      ap (λ (l : List ℤ). at l k) (end_row_lem m0 m1 m2 m3 r)
      ∙ get_d_tab 8 (last_at r) k (pos 0) h
      ∙ last_at_lem r k g h (eqb (k % 2) 0) refl
      ∙ rw (row_of_lem r k h, col_of r k h) refl)

-- the same, from what each step of the code returns
pub row_law : (b : List ℤ) {v : SideBlocks} {x y n0 n1 n2 n3 r : List ℤ} → v ≡ sides_of b
    → n0 ≡ forward_pairs_of v.sums (table_part 0 0) → x ≡ swapped_of v.sums → n1 ≡ forward_pairs_of x (table_part 0 1)
    → n2 ≡ forward_pairs_of v.diffs (table_part 1 0) → y ≡ swapped_of v.diffs → n3 ≡ forward_pairs_of y (table_part 1 1)
    → r ≡ ends_of n0 n1 n2 n3 → r ≡ forward_rows_of b
row_law b ev a0 ax a1 b0 by b1 e = e ∙ rw (a0, a1, ax, b0, b1, by, ev) (rows_is b)
