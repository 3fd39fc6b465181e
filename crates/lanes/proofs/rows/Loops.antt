-- A loop over the rows of a block that puts one in each turn: what the block is after r turns, and at the end.
use mathlib.Core.Path.{◌≡◌, refl, sym, ap, ◌∙◌}
use mathlib.Core.Bool.{Bool, true, false}
use mathlib.Core.List.{List}
use Prim.Native.Nat.{ℕ, ◌+◌, ◌*◌, ◌/◌, ◌%◌, ◌<◌, ◌≤◌}
use native.Mathlib.Omega.{arith}
use lib.IntN.{ℤ, pos}
use lib.Dec.{ltb}
use lib.ListN.{length, take}
use lib.Seq.{ext_get_or, get_or-take, length-take-le, length-sets}
use borrow.Author.Count.{below_more}
use borrow.Author.Tests.{ltb-true, ltb-false}
use Rattle.scalar.specs.Tab.{tab, lane}
use Rattle.scalar.proofs.Fill.{Filled, length_tab, get_d_tab, tab_ext, filled_done}
use Rattle.lanes.specs.rows.Block.{row_of, put_of, in_rows, block_of}
use Rattle.lanes.proofs.Elements.{by_elements}
use Rattle.lanes.proofs.rows.Stored.{stored_at, stored_before}

-- lane k of row r
pub row_at_lem : (b : List ℤ) (r k : ℕ) → k < 8 → lane (row_of b r) k ≡ lane b (8 * r + k)
unfolding row_of
row_at_lem b r k h = get_d_tab 8 (λ i. lane b (8 * r + i)) k (pos 0) h

-- row r, and the rest
pub put_same : (b : List ℤ) (r : ℕ) (x : List ℤ) (i : ℕ) → r < 8 → length b ≡ 64 → i / 8 ≡ r → lane (put_of b r x) i ≡ lane x (i % 8)
unfolding put_of
put_same b r x i g s e =
    stored_at (tab 8 (lane x)) b (8 * r) (i % 8) i (pos 0) (omega (arith, length_tab 8 (lane x))) (omega arith) (omega (arith, length_tab 8 (lane x)))
    ∙ get_d_tab 8 (lane x) (i % 8) (pos 0) (omega arith)

pub put_before : (b : List ℤ) (r : ℕ) (x : List ℤ) (i : ℕ) → i < 8 * r → lane (put_of b r x) i ≡ lane b i
unfolding put_of
put_before b r x i h = stored_before (tab 8 (lane x)) b (8 * r) i (pos 0) h

pub length_put : (b : List ℤ) (r : ℕ) (x : List ℤ) → length (put_of b r x) ≡ length b
unfolding put_of
length_put b r x = length-sets b (8 * r) (tab 8 (lane x))

-- row r once x is put there, and the rows before it
pub row_put : (b : List ℤ) (r : ℕ) (x : List ℤ) → r < 8 → length b ≡ 64 → length x ≡ 8 → row_of (put_of b r x) r ≡ x
unfolding row_of
row_put b r x h s e =
    sym (by_elements (pos 0) 8 x e (λ k l. sym (put_same b r x (8 * r + k) h s (omega arith) ∙ ap (lane x) (omega arith))))

pub row_kept : (b : List ℤ) (r : ℕ) (x : List ℤ) (j : ℕ) → j < r → row_of (put_of b r x) j ≡ row_of b j
unfolding row_of
row_kept b r x j h = tab_ext 8 (λ k l. put_before b r x (8 * j + k) (omega arith))

-- what held of the rows before r, and holds of x, holds of the rows up to r once x is put there
pub rows_next : (P : ℕ → List ℤ → Type 0) (b : List ℤ) {b' x : List ℤ} (r : ℕ) → r < 8 → length b ≡ 64 → length x ≡ 8 → b' ≡ put_of b r x
    → ((j : ℕ) → j < r → P j (row_of b j)) → P r x → (j : ℕ) → j < r + 1 → P j (row_of b' j)
rows_next P b {b'} {x} r h s e q i p =
    below_more (λ j. P j (row_of b' j)) r
    (λ j l. rw (q, row_kept b r x j l) (i j l))
    (rw (q, row_put b r x h s e) p)

-- filled up to a place, place by place
filled_at : (f : ℕ → ℤ) (b : List ℤ) (n i : ℕ) → i < n → Filled 64 f b n → lane b i ≡ f i
filled_at f b n i h s =
    let l : n ≤ 64 = s.0 in
    sym (get_or-take n b i (pos 0) h) ∙ ap (λ (l : List ℤ). lane l i) s.1.1 ∙ get_or-take n (tab 64 f) i (pos 0) h ∙ get_d_tab 64 f i (pos 0) (omega arith)

filled_by : (f : ℕ → ℤ) (b : List ℤ) (n : ℕ) → n ≤ 64 → length b ≡ 64 → ((i : ℕ) → i < n → lane b i ≡ f i) → Filled 64 f b n
filled_by f b n l s h =
    let p : length (take n b) ≡ n = length-take-le n b (omega arith) in
    let q : length (take n (tab 64 f)) ≡ n = length-take-le n (tab 64 f) (omega (arith, length_tab 64 f)) in (
      l,
      (
        s,
        ext_get_or (pos 0) (take n b) (take n (tab 64 f)) (p ∙ sym q)
            (λ i g.
            let k : i < n = omega arith in
            get_or-take n b i (pos 0) k ∙ h i k ∙ sym (get_or-take n (tab 64 f) i (pos 0) k ∙ get_d_tab 64 f i (pos 0) (omega arith))),
      ),
    )

-- g r is what the loop makes of row r
module _ (g : ℕ → List ℤ) where
  -- the first r rows are there: the loop's invariant
  abbrev pub RowsPut : List ℤ → ℕ → Type 0
  RowsPut b r = Filled 64 (in_rows g) b (8 * r)

  pub put_next : (b : List ℤ) (r : ℕ) {x : List ℤ} → r < 8 → RowsPut b r → x ≡ g r → RowsPut (put_of b r x) (r + 1)
  put_next b r {x} h s e =
      filled_by (in_rows g) (put_of b r x) (8 * (r + 1)) (omega arith) (length_put b r x ∙ s.1.0) (λ i l. one i l (ltb i (8 * r)) refl)
    where
      one : (i : ℕ) → i < 8 * (r + 1) → (t : Bool) → ltb i (8 * r) ≡ t → lane (put_of b r x) i ≡ in_rows g i
      one i l true q =
          let p : i < 8 * r = ltb-true i (8 * r) q in
          put_before b r x i p ∙ filled_at (in_rows g) b (8 * r) i p s
      one i l false q =
          let p : i / 8 ≡ r = omega (arith, ltb-false i (8 * r) q) in
          put_same b r x i h s.1.0 p ∙ rw (e, p) refl

  -- the same for what a call of `put` left
  pub put_turn : (b : List ℤ) {b' x : List ℤ} (r : ℕ) → r < 8 → RowsPut b r → b' ≡ put_of b r x → x ≡ g r → RowsPut b' (r + 1)
  put_turn b r h s e f = rw e (put_next b r h s f)

  pub put_done : (b : List ℤ) (r : ℕ) → 8 ≤ r → RowsPut b r → b ≡ block_of g
  unfolding block_of
  put_done b r h s = filled_done 64 (in_rows g) b (8 * r) (omega arith) s

  -- two rows a turn, by a loop inside: its invariant, its start, a turn and its end
  abbrev pub TwoRows : List ℤ → ℕ → ℕ → Type 0
  TwoRows b p h = (h ≤ 2) × RowsPut b (2 * p + h)

  moved : (b : List ℤ) (i j : ℕ) → j ≡ i → RowsPut b i → RowsPut b j
  moved b i j e s = rw e s

  pub two_begin : (b : List ℤ) (p : ℕ) → RowsPut b (2 * p) → TwoRows b p 0
  two_begin b p s = (omega arith, moved b (2 * p) (2 * p + 0) (omega arith) s)

  pub two_turn : (b : List ℤ) {b' x : List ℤ} (p h : ℕ) → p < 4 → h < 2 → TwoRows b p h → b' ≡ put_of b (2 * p + h) x → x ≡ g (2 * p + h) → TwoRows b' p (h + 1)
  two_turn b {b'} p h k l s e f = (omega arith, moved b' (2 * p + h + 1) (2 * p + (h + 1)) (omega arith) (put_turn b (2 * p + h) (omega arith) s.1 e f))

  pub two_end : (b : List ℤ) (p h : ℕ) → 2 ≤ h → TwoRows b p h → RowsPut b (2 * (p + 1))
  two_end b p h l s = moved b (2 * p + h) (2 * (p + 1)) (let a : h ≤ 2 = s.0 in omega arith) s.1

  -- place i
  pub block_at_lem : (i : ℕ) → i < 64 → lane (block_of g) i ≡ lane (g (i / 8)) (i % 8)
  unfolding block_of
  block_at_lem i h = get_d_tab 64 (in_rows g) i (pos 0) h

  -- the block by place: at each place f of it
  pub by_place : (f : ℕ → ℤ) → ((r k : ℕ) → r < 8 → k < 8 → lane (g r) k ≡ f (8 * r + k)) → block_of g ≡ tab 64 f
  unfolding block_of
  by_place f h =
      tab_ext 64
      (λ i l.
      let p : 8 * (i / 8) + i % 8 ≡ i = omega arith in
      h (i / 8) (i % 8) (omega arith) (omega arith) ∙ ap f p)

-- a block by its rows
pub by_rows : (b : List ℤ) (g : ℕ → List ℤ) → length b ≡ 64 → ((r : ℕ) → r < 8 → row_of b r ≡ g r) → b ≡ block_of g
unfolding block_of
by_rows b g s h =
    by_elements (pos 0) 64 b s
    (λ i l.
    let p : 8 * (i / 8) + i % 8 ≡ i = omega arith in
    sym (row_at_lem b (i / 8) (i % 8) (omega arith) ∙ ap (lane b) p) ∙ ap (λ (x : List ℤ). lane x (i % 8)) (h (i / 8) (omega arith)))
