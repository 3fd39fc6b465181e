-- The calls of the inverse half, joined; and that each sample fits its type.
use mathlib.Core.Path.{◌≡◌, sym, ap, ◌∙◌}
use mathlib.Core.Bool.{Bool}
use mathlib.Core.List.{List}
use Prim.Native.Nat.{ℕ, ◌<◌}
use lib.IntN.{ℤ, pos}
use Rattle.scalar.specs.Scalar.{adds_of}
use Rattle.scalar.proofs.Fill.{get_d_tab}
use Rattle.irow.specs.RowPass.{lane}
use Rattle.irow.specs.Stages.{pair_up_of}
use Rattle.paint.specs.Paint.{store_block, sample_in_block}
use Rattle.paint.specs.Samples.{sample_of}
use Rattle.paint.proofs.Pixels.{store_ext}
use Rattle.quant.specs.Quantise.{dequantise_with, dequant_shift, dequantise_of}
use Rattle.idct.specs.columns.Columns.{level_added_of}
use Rattle.idct.specs.Inverse.{inverse_of, inverse_of_paired, samples_of}
use Rattle.idct.proofs.Bounds.{sample_at_lem, sample_lt, sample_top, level_law, paired_law}
use Rattle.dct.specs.Decode.{block_sample, number_sample}

-- dequantising, then the transform
pub core_law : (ten : Bool) (d : List ℕ) (nat : List ℤ) {b r : List ℤ} → b ≡ pair_up_of (dequantise_with (dequant_shift ten) d nat) → r ≡ inverse_of_paired ten b
    → r ≡ inverse_of ten (pos 0) (dequantise_with (dequant_shift ten) d nat)
core_law ten d nat eb er = er ∙ ap (inverse_of_paired ten) eb ∙ paired_law ten (dequantise_with (dequant_shift ten) d nat)

-- ---- samples

level_at_lem : (level : ℤ) (v : List ℤ) (i : ℕ) → i < 64 → lane (level_added_of level v) i ≡ adds_of (lane v i) level
unfolding level_added_of
level_at_lem level v i h = get_d_tab 64 (λ i. adds_of (lane v i) level) i (pos 0) h

-- the samples of a block's numbers
pub store_law : (ten : Bool) (stride : ℕ) (level : ℤ) (v : List ℤ) (l : List ℕ) {p : List ℕ} → p ≡ samples_of ten (level_added_of level v)
    → store_block stride (sample_in_block p) l ≡ store_block stride (number_sample ten level v) l
unfolding number_sample
store_law ten stride level v l e =
    rw e
    (store_ext stride (sample_in_block (samples_of ten (level_added_of level v))) (λ i. number_sample ten level v i) l
    (λ i h. sample_at_lem ten (level_added_of level v) i h ∙ ap (sample_of ten) (level_at_lem level v i h)))

-- the numbers' samples are the block's
pub block_law : (ten : Bool) (stride preset : ℕ) (level : ℤ) (nat : List ℤ) (l : List ℕ) {v : List ℤ} → v ≡ inverse_of ten (pos 0) (dequantise_of ten preset nat)
    → store_block stride (number_sample ten level v) l ≡ store_block stride (block_sample ten preset level nat) l
unfolding block_sample number_sample
block_law ten stride preset level nat l {v} e =
    store_ext stride (λ i. number_sample ten level v i) (λ i. block_sample ten preset level nat i) l
    (λ i h.
    ap (sample_of ten)
    (sym (level_at_lem level v i h) ∙ ap (λ (w : List ℤ). lane w i) (ap (level_added_of level) e ∙ level_law ten level (dequantise_of ten preset nat))))

pub block_sample_lt : (ten : Bool) (preset : ℕ) (level : ℤ) (nat : List ℤ) (i : ℕ) → block_sample ten preset level nat i < sample_top ten
unfolding block_sample
block_sample_lt ten preset level nat i = sample_lt ten (lane (inverse_of ten level (dequantise_of ten preset nat)) i)
