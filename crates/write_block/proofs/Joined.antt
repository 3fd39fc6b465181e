-- A painted block is the block of the definition: filled flat, or transformed.
use mathlib.Core.Path.{◌≡◌, refl, sym, ap, ap₂, ◌∙◌}
use mathlib.Core.Bool.{Bool, true, false, not, ◌&&◌}
use mathlib.Core.List.{List, [], ◌∷◌}
use Prim.Native.Nat.{ℕ}
use lib.IntN.{ℤ, pos}
use lib.ListN.{length}
use Rattle.std.proofs.lemmas.Bool.{false≢true}
use Rattle.paint.specs.Paint.{store_block, sample_in_block}
use Rattle.paint.specs.Samples.{flat_sample, flat_sample_of}
use Rattle.paint.proofs.Pixels.{store_ext, flat_block_lem}
use Rattle.quant.specs.Quantise.{coefficient, scan_of, dequant_shift, dequantise_with, dequantise_of}
use Rattle.quant.proofs.Blocks.{scan_first, natural_scan, dequantise_with_lem}
use Rattle.idct.specs.Inverse.{inverse_of}
use Rattle.idct.proofs.Bounds.{sample_at_lem}
use Rattle.dct.specs.Decode.{block_sample, number_sample}
use Rattle.dct.proofs.Blocks.{block_law}
use Rattle.sample.specs.Numbers.{fills_flat}
use Rattle.calls.specs.Arguments.{Depth, eight, ten, is_ten}
use Rattle.calls.specs.Streams.{dc_of}
use Rattle.slice.specs.Plane.{transformed, filled_flat, block_samples}
use Rattle.write_block.specs.Block.{natural, Painted, PaintedAlways}

first : (l : List ℤ) → coefficient l 0 ≡ dc_of l
first [] = refl
first (c ∷ cs) = refl

-- a block that is not filled flat is transformed
transforms : (depth : Depth) (has : Bool) (nat : List ℤ) → fills_flat depth && not has ≡ false → (preset place : ℕ)
    → block_samples depth preset place (natural has nat) ≡ transformed depth preset place (natural has nat)
unfolding block_samples
transforms eight true nat e preset place = refl
transforms eight false nat e preset place = absurd (false≢true (sym e))
transforms ten has nat e preset place = refl

module _ (stride : ℕ) (q : List ℕ) (v : ℤ) (nat : List ℤ) (rows : List ℕ) {rows' : List ℕ} where
  -- filled flat with the DC
  pub flat : (depth : Depth) (has : Bool) {dc : ℤ} → fills_flat depth && not has ≡ true → dc ≡ coefficient nat 0 → rows' ≡ store_block stride (λ i. flat_sample_of (is_ten depth) v dc) rows
      → Painted depth stride q v (natural has nat) rows rows'
  unfolding block_samples filled_flat
  flat eight false t e f = λ preset place d h.
      f ∙ sym (flat_block_lem stride rows (sym (ap₂ flat_sample h (e ∙ sym (scan_first nat) ∙ first (scan_of nat)))))
  flat eight true t e f = absurd (false≢true t)
  flat ten has t e f = absurd (false≢true t)

  -- transformed, from its numbers p without the level
  pub inverse : (depth : Depth) (has : Bool) {p : List ℤ} → fills_flat depth && not has ≡ false → length nat ≡ 64
      → p ≡ inverse_of (is_ten depth) (pos 0) (dequantise_with (dequant_shift (is_ten depth)) q nat) → rows' ≡ store_block stride (number_sample (is_ten depth) v p) rows
      → Painted depth stride q v (natural has nat) rows rows'
  unfolding transformed block_sample
  inverse depth has {p} t e ep f preset place d h =
      f
      ∙ block_law (is_ten depth) stride preset v nat rows (ep ∙ ap (inverse_of (is_ten depth) (pos 0)) (dequantise_with_lem (dequant_shift (is_ten depth)) preset q nat d))
      ∙ store_ext stride (block_sample (is_ten depth) preset v nat) (sample_in_block (transformed depth preset place (natural has nat))) rows
      (λ i b.
      rw (natural_scan nat e, ← h) (sym (sample_at_lem (is_ten depth) (inverse_of (is_ten depth) v (dequantise_of (is_ten depth) preset nat)) i b)))
      ∙ ap (λ (l : List ℕ). store_block stride (sample_in_block l) rows) (sym (transforms depth has nat t preset place))

  -- "A 10-bit block is always transformed": painted the same whether a symbol was read for it or not
  pub always : (has : Bool) → Painted ten stride q v (natural has nat) rows rows' → PaintedAlways stride q v nat rows rows'
  unfolding block_samples transformed
  always has f symbol_read = f
