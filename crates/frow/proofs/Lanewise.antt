-- The rows that the code makes by shuffles, sums and packs, lane by lane.
use mathlib.Core.Path.{◌≡◌, refl, ap, ◌∙◌}
use mathlib.Core.List.{List}
use Prim.Native.Nat.{ℕ, ◌+◌, ◌-◌, ◌*◌, ◌/◌, ◌%◌, ◌<◌}
use native.Mathlib.Omega.{arith}
use lib.IntN.{ℤ, pos}
use lib.Dec.{eqb}
use mir.Val.{sel}
use Rattle.scalar.specs.Scalar.{adds_of, subs_of}
use Rattle.scalar.specs.Tab.{tab, tab_from, lane}
use Rattle.scalar.proofs.Fill.{get_d_tab}
use Rattle.lanes.specs.Lanes.{mm_set1_epi32, mm_adds_epi16, mm_subs_epi16, mm_add_epi32, mm_srai_epi32, mm_packs_epi32}
use Rattle.lanes.specs.rows.Block.{row_of, wide_of, block_of}
use Rattle.lanes.proofs.rows.Loops.{row_at_lem, block_at_lem}
use Rattle.shuffles.specs.Shuffles.{selector, pair_place, high_place, mm_shuffle_epi32_16, mm_shufflehi_epi16}
use Rattle.frow.specs.declared.sides.SideBlocks.{SideBlocks}
use Rattle.frow.specs.rounding.Tail.{tail_of, rounded_of, weave_of, end_row}
use Rattle.frow.specs.sides.Halves.{left_of, right_of, row_sums_of, row_diffs_of}
use Rattle.frow.specs.steps.Order.{swap_row, swapped_of}
use Rattle.frow.specs.steps.Sides.{at}

-- opposite lanes of a row
abbrev pub opposite : (ℤ → ℤ → ℤ) → List ℤ → List ℤ
opposite f x = tab 8 (λ k. f (lane x (k % 4)) (lane x (7 - k % 4)))

pub sums_row_lem : (x : List ℤ) → row_sums_of x ≡ opposite adds_of x
unfolding row_sums_of left_of right_of mm_adds_epi16 mm_shuffle_epi32_16 mm_shufflehi_epi16 pair_place high_place selector tab_from
sums_row_lem x = refl

pub diffs_row : (x : List ℤ) → row_diffs_of x ≡ opposite subs_of x
unfolding row_diffs_of left_of right_of mm_subs_epi16 mm_shuffle_epi32_16 mm_shufflehi_epi16 pair_place high_place selector tab_from
diffs_row x = refl

swap_row_lem : (x : List ℤ) → swap_row x ≡ tab 8 (λ k. lane x (4 * (k / 4) + (k + 2) % 4))
unfolding swap_row mm_shuffle_epi32_16 pair_place selector tab_from
swap_row_lem x = refl

pub end_row_lem : (m0 m1 m2 m3 : List ℤ) (r : ℕ) → end_row m0 m1 m2 m3 r
    ≡ tab 8 (λ k. sel (eqb (k % 2) 0) (tail_of (at m0 (4 * r + k / 2)) (at m1 (4 * r + k / 2))) (tail_of (at m2 (4 * r + k / 2)) (at m3 (4 * r + k / 2))))
unfolding end_row weave_of rounded_of wide_of tail_of mm_set1_epi32 mm_add_epi32 mm_srai_epi32 mm_packs_epi32 tab_from
end_row_lem m0 m1 m2 m3 r = refl

-- ---- of a block

pub opposite_at : (f : ℤ → ℤ → ℤ) (g : List ℤ → List ℤ) → ((x : List ℤ) → g x ≡ opposite f x) → (c : List ℤ) (i : ℕ) → i < 64
    → at (block_of (λ r. g (row_of c r))) i ≡ f (at c (8 * (i / 8) + i % 4)) (at c (8 * (i / 8) + (7 - i % 4)))
opposite_at f g e c i h =
    let m : i % 8 % 4 ≡ i % 4 = omega arith in
    block_at_lem (λ r. g (row_of c r)) i h
    ∙ ap (λ (l : List ℤ). lane l (i % 8)) (e (row_of c (i / 8)))
    ∙ get_d_tab 8 (λ k. f (lane (row_of c (i / 8)) (k % 4)) (lane (row_of c (i / 8)) (7 - k % 4))) (i % 8) (pos 0) (omega arith)
    ∙ rw (m, row_at_lem c (i / 8) (i % 4) (omega arith), row_at_lem c (i / 8) (7 - i % 4) (omega arith)) refl

pub swapped_at : (a : List ℤ) (i : ℕ) → i < 64 → at (swapped_of a) i ≡ at a (8 * (i / 8) + (4 * (i % 8 / 4) + (i % 8 + 2) % 4))
swapped_at a i h =
    block_at_lem (λ r. swap_row (row_of a r)) i h
    ∙ ap (λ (l : List ℤ). lane l (i % 8)) (swap_row_lem (row_of a (i / 8)))
    ∙ get_d_tab 8 (λ k. lane (row_of a (i / 8)) (4 * (k / 4) + (k + 2) % 4)) (i % 8) (pos 0) (omega arith)
    ∙ row_at_lem a (i / 8) (4 * (i % 8 / 4) + (i % 8 + 2) % 4) (omega arith)

-- ---- what the calls of the code return

unfoldable pub make_blocks : List ℤ → List ℤ → SideBlocks
make_blocks s d = record { sums = s; diffs = d }

pub blocks_eq : {s d s' d' : List ℤ} → s ≡ s' → d ≡ d' → make_blocks s d ≡ make_blocks s' d'
blocks_eq e f = rw (e, f) refl
