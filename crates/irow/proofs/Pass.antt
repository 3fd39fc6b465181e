-- The stages of the code make the row pass, each row's right half mirrored.
use mathlib.Core.Path.{◌≡◌, refl, sym, ap, ap₂, ◌∙◌}
use mathlib.Core.Bool.{Bool, true, false, cond}
use mathlib.Core.Logic.{◌⊎◌, inl, inr, ⊎_elim}
use mathlib.Core.List.{List}
use Prim.Native.Nat.{ℕ, zero, suc, ◌+◌, ◌-◌, ◌*◌, ◌/◌, ◌%◌, ◌<◌, ◌≤◌}
use native.Mathlib.Omega.{arith}
use lib.Dec.{ltb}
use lib.IntN.{ℤ, pos, ◌+ℤ◌, ◌-ℤ◌, ◌*ℤ◌, +ℤ_comm}
use borrow.Author.Tests.{ltb-true, ltb-false, lt-ltb, le-ltb}
use Rattle.scalar.specs.Scalar.{wrap32, madd_of}
use Rattle.scalar.proofs.Fill.{get_d_tab, tab_ext}
use Rattle.scalar.proofs.InRows.{row_of_lem, col_of}
use Rattle.irow.specs.pairs.Pairs.{spread_place, inverse_spread_of, inverse_pairs_of, spread_by}
use Rattle.irow.specs.sums.Sums.{inverse_lane_of, inverse_half_of, side_of, rows_from}
use Rattle.irow.proofs.pairs.Orders.{spread_0, spread_4, spread_2, spread_6}
use Rattle.irow.proofs.sums.Sums.{left_is, right_is, half_at}
use Rattle.irow.specs.RowPass.{lane, row_tab, pair_sum, even_sum, odd_sum, rounded_sum, pick_z, row_lane, inverse_rows_of}
use Rattle.irow.specs.Stages.{paired_place, pair_up_of, group_of, inverse_tab, inverse_mirror_of, paired_rows}

-- ---- the factors

up_at : (a : List ℤ) (r k : ℕ) → r < 8 → k < 8 → lane (pair_up_of a) (8 * r + k) ≡ lane a (8 * r + paired_place k)
unfolding pair_up_of
up_at a r k hr hk =
    get_d_tab 64 (λ i. lane a (8 * (i / 8) + paired_place (i % 8))) (8 * r + k) (pos 0) (omega arith) ∙ rw (row_of_lem r k hk, col_of r k hk) refl

-- number p of row r, spread from `from` on
spread_at : (b : List ℤ) (from r p : ℕ) → r < 8 → p < 8 → lane (inverse_spread_of b from) (8 * r + p) ≡ lane b (8 * r + spread_place from p)
unfolding inverse_spread_of
spread_at b from r p hr hp =
    get_d_tab 64 (λ i. lane b (8 * (i / 8) + spread_place from (i % 8))) (8 * r + p) (pos 0) (omega arith) ∙ rw (row_of_lem r p hp, col_of r p hp) refl

tab_at : (s r q : ℕ) → s < 4 → r < 8 → q < 8 → lane inverse_tab (64 * s + (8 * r + q)) ≡ lane (row_tab r) (8 * group_of s (q / 2) + q)
unfolding inverse_tab
tab_at s r q hs hr hq =
    let j = 64 * s + (8 * r + q) in
    let e1 : j % 64 / 8 ≡ r = omega arith in
    let e2 : j / 64 ≡ s = omega arith in
    let e3 : j % 8 ≡ q = omega arith in
    get_d_tab 256 (λ j. lane (row_tab (j % 64 / 8)) (8 * group_of (j / 64) (j % 8 / 2) + j % 8)) j (pos 0) (omega arith) ∙ rw (e1, e2, e3) refl

-- ---- the pairs of products

swapped : {x y u v x' y' u' v' : ℤ} → x ≡ x' → y ≡ y' → u ≡ u' → v ≡ v' → madd_of x y u v ≡ wrap32 (u' *ℤ v' +ℤ x' *ℤ y')
unfolding madd_of
swapped {x' = x'} {y' = y'} {u' = u'} {v' = v'} p q r s = rw (p, q, r, s) (ap wrap32 (+ℤ_comm (x' *ℤ y') (u' *ℤ v')))

module _ (a : List ℤ) (s from : ℕ) (hs : s < 4) where
  abbrev x : List ℤ
  x = inverse_spread_of (pair_up_of a) from

  -- number p of a spread row is number k of the row
  factor : (r p k : ℕ) → r < 8 → p < 8 → spread_place from p < 8 → paired_place (spread_place from p) ≡ k → lane x (8 * r + p) ≡ lane a (8 * r + k)
  factor r p k hr hp hf e = spread_at (pair_up_of a) from r p hr hp ∙ up_at a r (spread_place from p) hr hf ∙ ap (λ (i : ℕ). lane a (8 * r + i)) e

  -- the pair of numbers k and k + 2, multiplied for number c of the row
  pair_at_lem : (r c k g : ℕ) → r < 8 → c < 4 → from < 7 → from % 2 ≡ 0 → paired_place (spread_place from (2 * c)) ≡ k → paired_place (spread_place from (2 * c + 1)) ≡ k + 2 → group_of s c ≡ g
      → lane (inverse_pairs_of x inverse_tab (64 * s)) (4 * r + c) ≡ wrap32 (pair_sum a r k g c)
  unfolding inverse_pairs_of
  pair_at_lem r c k g hr hc hf hp e f eg =
      let i = 4 * r + c in
      let p0 : 2 * i ≡ 8 * r + 2 * c = omega arith in
      let p1 : 2 * i + 1 ≡ 8 * r + (2 * c + 1) = omega arith in
      let q0 : 2 * c / 2 ≡ c = omega arith in
      let q1 : (2 * c + 1) / 2 ≡ c = omega arith in
      get_d_tab 32 (λ i. madd_of (lane x (2 * i + 1)) (lane inverse_tab (64 * s + (2 * i + 1))) (lane x (2 * i)) (lane inverse_tab (64 * s + 2 * i))) i (pos 0) (omega arith)
      ∙ swapped
      (ap (λ (j : ℕ). lane x j) p1 ∙ factor r (2 * c + 1) (k + 2) hr (omega arith) (omega arith) f)
      (ap (λ (j : ℕ). lane inverse_tab (64 * s + j)) p1 ∙ tab_at s r (2 * c + 1) hs hr (omega arith) ∙ ap (λ (j : ℕ). lane (row_tab r) (8 * j + (2 * c + 1))) (ap (group_of s) q1 ∙ eg))
      (ap (λ (j : ℕ). lane x j) p0 ∙ factor r (2 * c) k hr (omega arith) (omega arith) e)
      (ap (λ (j : ℕ). lane inverse_tab (64 * s + j)) p0 ∙ tab_at s r (2 * c) hs hr (omega arith) ∙ ap (λ (j : ℕ). lane (row_tab r) (8 * j + 2 * c)) (ap (group_of s) q0 ∙ eg))

-- ---- the rows

fours : (n q r : ℕ) → r < 4 → n ≡ 4 * q + r → n % 4 ≡ r
fours n q r h e = omega arith

module _ (round : ℤ) (shift : ℕ) (a : List ℤ) where
  abbrev m : ℕ → ℕ → List ℤ
  m from s = inverse_pairs_of (inverse_spread_of (pair_up_of a) from) inverse_tab (64 * s)

  abbrev half : Bool → List ℤ
  half right = inverse_half_of right round shift (m 0 0) (m 4 1) (m 2 2) (m 6 3)

  -- number c of a half, by its four pairs of products: in an odd place the pairs come in the other order
  even_place : (right : Bool) (r c : ℕ) → r < 8 → c < 4 → c % 2 ≡ 0
      → lane (half right) (4 * r + c) ≡ inverse_lane_of right round shift (wrap32 (pair_sum a r 0 0 c)) (wrap32 (pair_sum a r 4 1 c)) (wrap32 (pair_sum a r 1 2 c)) (wrap32 (pair_sum a r 5 3 c))
  even_place right r c hr hc e =
      let z : 2 * c % 4 / 2 ≡ 0 = omega arith in
      let y : (2 * c + 1) % 4 ≡ 1 = fours (2 * c + 1) (c / 2) 1 (omega arith) (omega arith) in
      let z1 : (2 * c + 1) % 4 / 2 ≡ 0 = rw y refl in
      let b : 2 * c % 2 ≡ 0 = omega arith in
      let b1 : (2 * c + 1) % 2 ≡ 1 = omega arith in
      half_at right round shift (m 0 0) (m 4 1) (m 2 2) (m 6 3) (4 * r + c) (omega arith)
      (pair_at_lem a 0 0 (omega arith) r c 0 0 hr hc (omega arith) refl (rw (z, b) refl) (rw (z1, b1) refl) (rw e refl))
      (pair_at_lem a 1 4 (omega arith) r c 4 1 hr hc (omega arith) refl (rw (z, b) refl) (rw (z1, b1) refl) (rw e refl))
      (pair_at_lem a 2 2 (omega arith) r c 1 2 hr hc (omega arith) refl (rw (z, b) refl) (rw (z1, b1) refl) (rw e refl))
      (pair_at_lem a 3 6 (omega arith) r c 5 3 hr hc (omega arith) refl (rw (z, b) refl) (rw (z1, b1) refl) (rw e refl))

  odd_place : (right : Bool) (r c : ℕ) → r < 8 → c < 4 → c % 2 ≡ 1
      → lane (half right) (4 * r + c) ≡ inverse_lane_of right round shift (wrap32 (pair_sum a r 4 1 c)) (wrap32 (pair_sum a r 0 0 c)) (wrap32 (pair_sum a r 5 3 c)) (wrap32 (pair_sum a r 1 2 c))
  odd_place right r c hr hc e =
      let z : 2 * c % 4 / 2 ≡ 1 = omega arith in
      let y : (2 * c + 1) % 4 ≡ 3 = fours (2 * c + 1) (c / 2) 3 (omega arith) (omega arith) in
      let z1 : (2 * c + 1) % 4 / 2 ≡ 1 = rw y refl in
      let b : 2 * c % 2 ≡ 0 = omega arith in
      let b1 : (2 * c + 1) % 2 ≡ 1 = omega arith in
      half_at right round shift (m 0 0) (m 4 1) (m 2 2) (m 6 3) (4 * r + c) (omega arith)
      (pair_at_lem a 0 0 (omega arith) r c 4 1 hr hc (omega arith) refl (rw (z, b) refl) (rw (z1, b1) refl) (rw e refl))
      (pair_at_lem a 1 4 (omega arith) r c 0 0 hr hc (omega arith) refl (rw (z, b) refl) (rw (z1, b1) refl) (rw e refl))
      (pair_at_lem a 2 2 (omega arith) r c 5 3 hr hc (omega arith) refl (rw (z, b) refl) (rw (z1, b1) refl) (rw e refl))
      (pair_at_lem a 3 6 (omega arith) r c 1 2 hr hc (omega arith) refl (rw (z, b) refl) (rw (z1, b1) refl) (rw e refl))

  abbrev sums : ℕ → ℕ → ℤ
  sums r c = rounded_sum round shift (even_sum a r c +ℤ odd_sum a r c)

  abbrev diffs : ℕ → ℕ → ℤ
  diffs r c = rounded_sum round shift (even_sum a r c -ℤ odd_sum a r c)

  parity : (c : ℕ) → (c % 2 ≡ 0) ⊎ (c % 2 ≡ 1)
  parity c = go (c % 2) refl (omega arith)
    where
      go : (b : ℕ) → c % 2 ≡ b → b < 2 → (c % 2 ≡ 0) ⊎ (c % 2 ≡ 1)
      go zero e h = inl e
      go (suc zero) e h = inr e
      go (suc (suc b)) e h = absurd (omega arith)

  left : (r c : ℕ) → r < 8 → c < 4 → lane (half false) (4 * r + c) ≡ sums r c
  left r c hr hc =
      ⊎_elim
      (λ e. even_place false r c hr hc e ∙ left_is round shift (pair_sum a r 0 0 c) (pair_sum a r 4 1 c) (pair_sum a r 1 2 c) (pair_sum a r 5 3 c))
      (λ e. odd_place false r c hr hc e ∙ left_is round shift (pair_sum a r 4 1 c) (pair_sum a r 0 0 c) (pair_sum a r 5 3 c) (pair_sum a r 1 2 c)
      ∙ ap₂ (λ (x y : ℤ). rounded_sum round shift (x +ℤ y)) (+ℤ_comm (pair_sum a r 4 1 c) (pair_sum a r 0 0 c)) (+ℤ_comm (pair_sum a r 5 3 c) (pair_sum a r 1 2 c)))
      (parity c)

  right : (r c : ℕ) → r < 8 → c < 4 → lane (half true) (4 * r + c) ≡ diffs r c
  right r c hr hc =
      ⊎_elim
      (λ e. even_place true r c hr hc e ∙ right_is round shift (pair_sum a r 0 0 c) (pair_sum a r 4 1 c) (pair_sum a r 1 2 c) (pair_sum a r 5 3 c))
      (λ e. odd_place true r c hr hc e ∙ right_is round shift (pair_sum a r 4 1 c) (pair_sum a r 0 0 c) (pair_sum a r 5 3 c) (pair_sum a r 1 2 c)
      ∙ ap₂ (λ (x y : ℤ). rounded_sum round shift (x -ℤ y)) (+ℤ_comm (pair_sum a r 4 1 c) (pair_sum a r 0 0 c)) (+ℤ_comm (pair_sum a r 5 3 c) (pair_sum a r 1 2 c)))
      (parity c)

  row_at_lem : (r c : ℕ) → r < 8 → c < 8 → lane (inverse_rows_of round shift a) (8 * r + c) ≡ row_lane round shift a r c
  unfolding inverse_rows_of
  row_at_lem r c hr hc =
      get_d_tab 64 (λ i. row_lane round shift a (i / 8) (i % 8)) (8 * r + c) (pos 0) (omega arith) ∙ rw (row_of_lem r c hc, col_of r c hc) refl

  sum_lane : (r c : ℕ) → c < 4 → row_lane round shift a r c ≡ sums r c
  unfolding row_lane
  sum_lane r c h = rw (lt-ltb c 4 h) refl

  diff_lane : (r c d : ℕ) → 4 ≤ c → 7 - c ≡ d → row_lane round shift a r c ≡ diffs r d
  unfolding row_lane
  diff_lane r c d h e = rw (le-ltb c 4 h, e) refl

  either : (r c : ℕ) (t : Bool) → r < 8 → c < 8 → ltb c 4 ≡ t
      → pick_z t (lane (half false) (4 * r + c)) (lane (half true) (4 * r + (c - 4))) ≡ lane (inverse_rows_of round shift a) (8 * r + cond t c (11 - c))
  either r c true hr hc e =
      let h : c < 4 = ltb-true c 4 e in
      left r c hr h ∙ sym (sum_lane r c h) ∙ sym (row_at_lem r c hr hc)
  either r c false hr hc e =
      let h : 4 ≤ c = ltb-false c 4 e in
      let k : 4 ≤ 11 - c = omega arith in
      let d : 7 - (11 - c) ≡ c - 4 = omega arith in
      right r (c - 4) hr (omega arith) ∙ sym (diff_lane r (11 - c) (c - 4) k d) ∙ sym (row_at_lem r (11 - c) hr (omega arith))

  pub rows_law : paired_rows round shift (pair_up_of a) inverse_tab ≡ inverse_mirror_of (inverse_rows_of round shift a)
  unfolding paired_rows side_of inverse_mirror_of
  rows_law = tab_ext 64 (λ i h. either (i / 8) (i % 8) (ltb (i % 8) 4) (omega arith) (omega arith) refl)

-- ---- the calls of paired_rows in order

pub paired_law : (round : ℤ) (shift : ℕ) (b t : List ℤ) {x0 x1 x2 x3 m0 m1 m2 m3 w : List ℤ} → t ≡ inverse_tab
    → x0 ≡ spread_by b 136 → m0 ≡ inverse_pairs_of x0 t 0 → x1 ≡ spread_by b 34 → m1 ≡ inverse_pairs_of x1 t 64
    → x2 ≡ spread_by b 221 → m2 ≡ inverse_pairs_of x2 t 128 → x3 ≡ spread_by b 119 → m3 ≡ inverse_pairs_of x3 t 192
    → w ≡ rows_from round shift m0 m1 m2 m3 → w ≡ paired_rows round shift b inverse_tab
unfolding paired_rows
paired_law round shift b t et e0 p0 e1 p1 e2 p2 e3 p3 ew =
    rw (ew, p0, p1, p2, p3, e0, e1, e2, e3, et, spread_0 b, spread_4 b, spread_2 b, spread_6 b) refl
