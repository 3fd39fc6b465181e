-- A plane painted block by block: none, one more, all.
use mathlib.Core.Path.{◌≡◌, refl, sym, ap, ◌∙◌}
use mathlib.Core.Bool.{Bool, ◌&&◌, cond}
use mathlib.Core.List.{List, [], ◌∷◌, ◌++◌, map}
use Prim.Native.Nat.{ℕ, zero, suc, ◌+◌, ◌-◌, ◌*◌, ◌/◌, ◌%◌, ◌<◌, ◌≤◌}
use native.Mathlib.Nat.{not-suc-le-zero, le_of_suc-le-suc}
use native.Mathlib.Omega.{arith}
use lib.Dec.{ltb}
use lib.ListN.{length, get_or, take, drop}
use borrow.Author.Tests.{lt-ltb, le-ltb}
use Rattle.paint.specs.Paint.{over, pick_n, both, store_block, sample_in_block}
use Rattle.paint.proofs.Over.{by_eq, by_lt, get_d_over, length_over, over_by, over_none, over_part, handed_back}
use Rattle.calls.specs.Arguments.{Depth, Plane}
use Rattle.calls.specs.ReadPlane.{BlockRead}
use Rattle.calls.specs.Grid.{columns_of, blocks_of}
use Rattle.slice.specs.Plane.{block_at, within_block, block_samples, sample_from, reconstruct_at}
use Rattle.planes.proofs.Laws.{corner_fits}
use Rattle.slice.specs.FirstBlocks.{painted_at, first_blocks, sample_in, painted_rows}
use Rattle.slice.proofs.Corner.{block_below, block_at_lem, within_at, inside_at, not_before, only_here}

-- one block more counts only where it is asked for
one_more : (a m : ℕ) → (a ≡ m → ⊥) → ltb a m ≡ ltb a (m + 1)
one_more a m ne =
    by_lt a m
    (λ h. lt-ltb a m h ∙ sym (lt-ltb a (m + 1) (omega arith)))
    (λ h. le-ltb a m h ∙ sym (le-ltb a (m + 1) (by_eq a m (λ e. absurd (ne e)) (λ d. omega arith))))

module _ (stride : ℕ) (s : ℕ → ℕ → ℕ) where
  other : (m i old : ℕ) → (block_at stride i ≡ m → ⊥) → painted_at stride s m i old ≡ painted_at stride s (m + 1) i old
  other m i old ne =
      ap (λ (b : Bool). cond (ltb i (16 * stride) && b) (s (block_at stride i) (within_block stride i)) old) (one_more (block_at stride i) m ne)

  same : (m i old : ℕ) → i < 16 * stride → block_at stride i ≡ m → s m (within_block stride i) ≡ painted_at stride s (m + 1) i old
  same m i old h e =
      let b : block_at stride i < m + 1 = omega arith in
      rw (lt-ltb i (16 * stride) h, lt-ltb (block_at stride i) (m + 1) b) (ap (λ (n : ℕ). s n (within_block stride i)) (sym e))

  -- before the first block
  pub painted_none : (rows : List ℕ) → rows ≡ first_blocks stride s 0 rows
  unfolding first_blocks
  painted_none rows =
      over_none (painted_at stride s 0) rows
      (λ i h.
      by_lt i (16 * stride)
      (λ k. rw (lt-ltb i (16 * stride) k, le-ltb (block_at stride i) 0 (omega arith)) refl)
      (λ k. rw (le-ltb i (16 * stride) k) refl))

  pub painted_length : (m : ℕ) (rows : List ℕ) → length (first_blocks stride s m rows) ≡ length rows
  unfolding first_blocks
  painted_length m rows = length_over (painted_at stride s m) 0 rows

-- samples that are the same in the first m blocks paint the same rows
same_at : (stride m : ℕ) (s t : ℕ → ℕ → ℕ) → ((n x : ℕ) → n < m → s n x ≡ t n x) → (i old : ℕ) → painted_at stride s m i old ≡ painted_at stride t m i old
same_at stride m s t e i old =
    by_lt i (16 * stride)
    (λ h.
    by_lt (block_at stride i) m
    (λ k. rw (lt-ltb i (16 * stride) h, lt-ltb (block_at stride i) m k) (e (block_at stride i) (within_block stride i) k))
    (λ k. rw (lt-ltb i (16 * stride) h, le-ltb (block_at stride i) m k) refl))
    (λ h. rw (le-ltb i (16 * stride) h) refl)

pub painted_ext : (stride m : ℕ) (s t : ℕ → ℕ → ℕ) (rows : List ℕ) → ((n x : ℕ) → n < m → s n x ≡ t n x) → first_blocks stride s m rows ≡ first_blocks stride t m rows
unfolding first_blocks
painted_ext stride m s t rows e =
    over_by (painted_at stride t m) rows (over (painted_at stride s m) 0 rows) (length_over (painted_at stride s m) 0 rows)
    (λ i h. get_d_over (painted_at stride s m) rows i h ∙ same_at stride m s t e i (get_or rows i 0))

-- a block's own stores, from its corner on
abbrev stored : ℕ → (ℕ → ℕ) → ℕ → ℕ → ℕ
stored stride f n x = pick_n (both (ltb (n % stride) 8) (ltb (n / stride) 8)) (f (n / stride * 8 + n % stride)) x

module _ (stride j k : ℕ) (eights : stride % 8 ≡ 0) (in_row : k < columns_of stride) (in_rows : j < 2) (s : ℕ → ℕ → ℕ) (f : ℕ → ℕ) (is : (x : ℕ) → x < 64 → f x ≡ s (j * columns_of stride + k) x) where
  painted_here : (n old : ℕ)
      → stored stride f n (painted_at stride s (j * columns_of stride + k) (8 * j * stride + 8 * k + n) old)
      ≡ painted_at stride s (j * columns_of stride + k + 1) (8 * j * stride + 8 * k + n) old
  painted_here n old =
      let m = j * columns_of stride + k in
      let i = 8 * j * stride + 8 * k + n in
      by_lt (n % stride) 8
      (λ hx.
      by_lt (n / stride) 8
      (λ hy.
      rw (lt-ltb (n % stride) 8 hx, lt-ltb (n / stride) 8 hy)
      (is (n / stride * 8 + n % stride) (omega arith)
      ∙ ap (s m) (sym (within_at stride j k eights in_row n hy hx))
      ∙ same stride s m i old (inside_at stride j k eights in_row n in_rows hy hx) (block_at_lem stride j k eights in_row n hy hx)))
      (λ ky. rw (lt-ltb (n % stride) 8 hx, le-ltb (n / stride) 8 ky) (other stride s m i old (λ e. omega (arith, (only_here stride j k eights in_row n e).0)))))
      (λ kx. rw (le-ltb (n % stride) 8 kx) (other stride s m i old (λ e. omega (arith, (only_here stride j k eights in_row n e).1))))

  here : (m c n old : ℕ) → m ≡ j * columns_of stride + k → c ≡ 8 * j * stride + 8 * k
      → stored stride f n (painted_at stride s m (c + n) old) ≡ painted_at stride s (m + 1) (c + n) old
  here m c n old em ec = rw (em, ec) (painted_here n old)

  -- one block more: the part from its corner on, lent and handed back
  pub painted_next : (m c : ℕ) (rows0 rows y : List ℕ) → m ≡ j * columns_of stride + k → c ≡ 8 * j * stride + 8 * k → c ≤ length rows0
      → rows ≡ first_blocks stride s m rows0 → y ≡ store_block stride f (take (length rows - c) (drop c rows))
      → take c rows ++ (y ++ drop (length rows - c) (drop c rows)) ≡ first_blocks stride s (m + 1) rows0
  unfolding first_blocks store_block
  painted_next m c rows0 rows y em ec room er ey =
      let l : length rows ≡ length rows0 = ap length er ∙ length_over (painted_at stride s m) 0 rows0 in
      handed_back (stored stride f) rows y c ey
      ∙ over_part (stored stride f) (painted_at stride s (m + 1)) rows rows0 c (omega arith) l
      (λ n h.
      ap (λ (z : List ℕ). get_or z n 0) er
      ∙ get_d_over (painted_at stride s m) rows0 n (omega arith)
      ∙ other stride s m n (get_or rows0 n 0) (λ e. omega (arith, not_before stride j k eights in_row n (e ∙ em))))
      (λ n h.
      ap (λ (z : List ℕ). stored stride f n (get_or z (c + n) 0)) er
      ∙ ap (stored stride f n) (get_d_over (painted_at stride s m) rows0 (c + n) h)
      ∙ here m c n (get_or rows0 (c + n) 0) em ec)

-- ---- of the blocks read

map_at : {A B : Type 0} (g : A → B) (l : List A) (n : ℕ) (d : A) (e : B) → n < length l → get_or (map g l) n e ≡ g (get_or l n d)
map_at g [] n d e h = absurd (not-suc-le-zero h)
map_at g (x ∷ xs) zero d e h = refl
map_at g (x ∷ xs) (suc n) d e h = map_at g xs n d e (le_of_suc-le-suc h)

map_front : {A B : Type 0} (g : A → B) (l m : List A) (n : ℕ) (e : B) → n < length l → get_or (map g l) n e ≡ get_or (map g (l ++ m)) n e
map_front g [] m n e h = absurd (not-suc-le-zero h)
map_front g (x ∷ xs) m zero e h = refl
map_front g (x ∷ xs) m (suc n) e h = map_front g xs m n e (le_of_suc-le-suc h)

map_last : {A B : Type 0} (g : A → B) (l : List A) (a : A) (e : B) → g a ≡ get_or (map g (l ++ (a ∷ []))) (length l) e
map_last g [] a e = refl
map_last g (x ∷ xs) a e = map_last g xs a e

module _ (depth : Depth) (preset place : ℕ) where
  -- the samples of block n of a list
  pub block_is : (blocks : List BlockRead) (n : ℕ) (d b : BlockRead) → n < length blocks → get_or blocks n d ≡ b
      → (x : ℕ) → x < 64 → sample_in_block (block_samples depth preset place b) x ≡ sample_in depth preset place blocks n x
  block_is blocks n d b h e x k =
      ap (λ (z : List ℕ). get_or z x 0) (sym (map_at (block_samples depth preset place) blocks n d [] h ∙ ap (block_samples depth preset place) e))

  -- the block that follows those of a list
  pub block_last : (blocks : List BlockRead) (b : BlockRead)
      → (x : ℕ) → x < 64 → sample_in_block (block_samples depth preset place b) x ≡ sample_in depth preset place (blocks ++ (b ∷ [])) (length blocks) x
  block_last blocks b x k = ap (λ (z : List ℕ). get_or z x 0) (map_last (block_samples depth preset place) blocks b [])

  block_front : (blocks more : List BlockRead) (n x : ℕ) → n < length blocks → sample_in depth preset place blocks n x ≡ sample_in depth preset place (blocks ++ more) n x
  block_front blocks more n x h = ap (λ (z : List ℕ). get_or z x 0) (map_front (block_samples depth preset place) blocks more n [] h)

module _ (depth : Depth) (preset : ℕ) (p : Plane) (eights : p.stride % 8 ≡ 0) where
  -- the block b after the blocks so far, at its own corner
  pub painted_more : (j k c : ℕ) (blocks : List BlockRead) (b : BlockRead) (rows y : List ℕ) → j < 2 → k < columns_of p.stride
      → length blocks ≡ j * columns_of p.stride + k → c ≡ 8 * j * p.stride + 8 * k → 16 * p.stride ≤ length p.samples
      → rows ≡ painted_rows depth preset p blocks (length blocks)
      → y ≡ store_block p.stride (sample_in_block (block_samples depth preset p.place b)) (take (length rows - c) (drop c rows))
      → take c rows ++ (y ++ drop (length rows - c) (drop c rows)) ≡ painted_rows depth preset p (blocks ++ (b ∷ [])) (length blocks + 1)
  painted_more j k c blocks b rows y in_rows in_row em ec room er ey =
      let s = sample_in depth preset p.place (blocks ++ (b ∷ [])) in
      painted_next p.stride j k eights in_row in_rows s (sample_in_block (block_samples depth preset p.place b))
      (λ x h. block_last depth preset p.place blocks b x h ∙ ap (λ (n : ℕ). s n x) em)
      (length blocks) c p.samples rows y em ec (omega (arith, corner_fits j k p.stride in_rows in_row))
      (er ∙ painted_ext p.stride (length blocks) (sample_in depth preset p.place blocks) s p.samples (λ n x h. block_front depth preset p.place blocks (b ∷ []) n x h)) ey

  all_at : (bs : List (List ℕ)) (i old : ℕ) → painted_at p.stride (λ n x. get_or (get_or bs n []) x 0) (blocks_of p.stride) i old ≡ sample_from bs p.stride i old
  all_at bs i old =
      by_lt i (16 * p.stride)
      (λ h. rw (lt-ltb i (16 * p.stride) h, lt-ltb (block_at p.stride i) (blocks_of p.stride) (block_below p.stride i eights h)) refl)
      (λ h. rw (le-ltb i (16 * p.stride) h) refl)

  -- all of them
  pub painted_all : (blocks : List BlockRead) → painted_rows depth preset p blocks (blocks_of p.stride) ≡ reconstruct_at depth preset p blocks
  unfolding first_blocks reconstruct_at
  painted_all blocks =
      let s = sample_in depth preset p.place blocks in
      over_by (sample_from (map (block_samples depth preset p.place) blocks) p.stride) p.samples (over (painted_at p.stride s (blocks_of p.stride)) 0 p.samples)
      (length_over (painted_at p.stride s (blocks_of p.stride)) 0 p.samples)
      (λ i h. get_d_over (painted_at p.stride s (blocks_of p.stride)) p.samples i h ∙ all_at (map (block_samples depth preset p.place) blocks) i (get_or p.samples i 0))
