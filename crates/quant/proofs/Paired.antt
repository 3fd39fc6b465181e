-- Dequantising by rows, lane by lane.
use mathlib.Core.Path.{◌≡◌, refl, sym, ap, ap₂, ◌∙◌}
use mathlib.Core.List.{List}
use Prim.Native.Nat.{ℕ, ◌+◌, ◌*◌, ◌/◌, ◌%◌, ◌<◌}
use native.Mathlib.Omega.{arith}
use lib.IntN.{ℤ, pos}
use lib.ListN.{get_or}
use mir.Syntax.{w16}
use mir.Val.{Fits, to_z}
use Rattle.scalar.specs.Scalar.{mullo_of, sra_of}
use Rattle.scalar.specs.Tab.{tab_from, tab, lane}
use Rattle.scalar.proofs.Fill.{get_d_tab, tab_ext}
use Rattle.scalar.proofs.InRows.{row_of_lem, col_of}
use Rattle.shuffles.specs.Shuffles.{selector, low_place, high_place, mm_shufflelo_epi16, mm_shufflehi_epi16}
use Rattle.shuffles.proofs.places.Places.{high_lt}
use Rattle.lanes.specs.Lanes.{mm_loadu_si128, mm_mullo_epi16, mm_srai_epi16}
use Rattle.lanes.specs.rows.Block.{row_of, numbers_of, block_of}
use Rattle.lanes.proofs.rows.Loops.{row_at_lem, by_place}
use Rattle.irow.specs.Stages.{paired_place, pair_up_of}
use Rattle.irow.proofs.Place.{pair_lt}
use Rattle.quant.specs.Quantise.{coefficient, dequantised, dequantise_with}
use Rattle.quant.specs.Paired.{dequantised_row}
use Rattle.quant.proofs.Unsigned.{low_unsigned}

-- ---- a row

-- both shuffles by 0xd8
places : tab 8 (λ k. low_place 216 (high_place 216 k)) ≡ tab 8 (λ k. paired_place k)
unfolding low_place high_place selector tab_from
places = refl

ordered : (y : List ℤ) (k : ℕ) → k < 8 → lane (mm_shufflehi_epi16 (mm_shufflelo_epi16 y 216) 216) k ≡ lane y (paired_place k)
unfolding mm_shufflehi_epi16 mm_shufflelo_epi16
ordered y k h =
    get_d_tab 8 (λ k. lane (tab 8 (λ k. lane y (low_place 216 k))) (high_place 216 k)) k (pos 0) h
    ∙ get_d_tab 8 (λ k. lane y (low_place 216 k)) (high_place 216 k) (pos 0) (high_lt 216 k h)
    ∙ ap (lane y) (sym (get_d_tab 8 (λ k. low_place 216 (high_place 216 k)) k 0 h) ∙ ap (λ (l : List ℕ). get_or l k 0) places ∙ get_d_tab 8 (λ k. paired_place k) k 0 h)

product : (x : List ℤ) (d : List ℕ) (p : ℕ) → p < 8 → Fits w16 (get_or d p 0) → lane (mm_mullo_epi16 x (mm_loadu_si128 d)) p ≡ mullo_of (lane x p) (pos (get_or d p 0))
unfolding mm_mullo_epi16 mm_loadu_si128
product x d p h f =
    get_d_tab 8 (λ i. mullo_of (lane x i) (lane (tab 8 (λ k. to_z w16 (get_or d k 0))) i)) p (pos 0) h
    ∙ ap (mullo_of (lane x p)) (get_d_tab 8 (λ k. to_z w16 (get_or d k 0)) p (pos 0) h)
    ∙ low_unsigned (lane x p) (get_or d p 0) f.fits

-- the calls of a depth's dequant_row
pub row_law : (shift : ℕ) (d : List ℕ) (x : List ℤ) {u y l h r : List ℤ} → ((i : ℕ) → Fits w16 (get_or d i 0)) → u ≡ mm_loadu_si128 d → y ≡ mm_mullo_epi16 x u
    → l ≡ mm_shufflelo_epi16 y 216 → h ≡ mm_shufflehi_epi16 l 216 → r ≡ mm_srai_epi16 h shift → r ≡ dequantised_row shift d x
unfolding dequantised_row dequantised mm_srai_epi16
row_law shift d x f eu ey el eh er =
    rw (er, eh, el, ey, eu)
    (tab_ext 8
    (λ k h.
    ap (λ (z : ℤ). sra_of z shift) (ordered (mm_mullo_epi16 x (mm_loadu_si128 d)) k h ∙ product x d (paired_place k) (pair_lt k h) (f (paired_place k)))))

-- ---- the block

module _ (shift : ℕ) (d : List ℕ) (n : List ℤ) where
  abbrev pub row_at : ℕ → List ℤ
  row_at r = dequantised_row shift (numbers_of d (8 * r)) (row_of n r)

  at : (r k : ℕ) → r < 8 → k < 8 → lane (row_at r) k ≡ coefficient (dequantise_with shift d n) (8 * r + paired_place k)
  unfolding dequantised_row dequantise_with numbers_of
  at r k hr hk =
      let p : paired_place k < 8 = pair_lt k hk in
      get_d_tab 8 (λ k. dequantised shift (get_or (tab 8 (λ k. get_or d (8 * r + k) 0)) (paired_place k) 0) (coefficient (row_of n r) (paired_place k))) k (pos 0) hk
      ∙ ap₂ (dequantised shift) (get_d_tab 8 (λ k. get_or d (8 * r + k) 0) (paired_place k) 0 p) (row_at_lem n r (paired_place k) p)
      ∙ sym (get_d_tab 64 (λ i. dequantised shift (get_or d i 0) (coefficient n i)) (8 * r + paired_place k) (pos 0) (omega arith))

  pub block_law : block_of row_at ≡ pair_up_of (dequantise_with shift d n)
  unfolding pair_up_of
  block_law =
      by_place row_at (λ i. lane (dequantise_with shift d n) (8 * (i / 8) + paired_place (i % 8)))
      (λ r k hr hk. at r k hr hk ∙ rw (row_of_lem r k hk, col_of r k hk) refl)
