-- Sizes: of the block's numbers and samples, and that a sample fits its type.
use mathlib.Core.Path.{◌≡◌, refl, sym, ap, ◌∙◌}
use mathlib.Core.Bool.{Bool, false}
use mathlib.Core.List.{List}
use Prim.Native.Nat.{ℕ, ◌/◌, ◌%◌, ◌<◌}
use lib.IntN.{ℤ, pos}
use lib.ListN.{length}
use Rattle.scalar.specs.Scalar.{adds_of}
use Rattle.scalar.specs.Tab.{tab}
use Rattle.scalar.proofs.Fill.{length_tab, get_d_tab, tab_ext}
use Rattle.irow.specs.RowPass.{lane, inverse_rows_of}
use Rattle.irow.specs.Stages.{pair_up_of, inverse_mirror_of, paired_rows, inverse_tab}
use Rattle.irow.proofs.Pass.{rows_law}
use Rattle.sample.specs.Depth.{Depth, is_ten}
pub use Rattle.sample.proofs.Clamps.{sample_top, sample_lt}
use Rattle.paint.specs.Samples.{sample_of, flat_sample}
use Rattle.idct.specs.columns.Columns.{eight_at, inverse_column_at, inverse_columns_of, level_added_of}
use Rattle.idct.proofs.columns.Mirror.{columns_mirror}
use Rattle.idct.proofs.columns.Level.{columns_level}
use Rattle.idct.specs.Inverse.{row_round, row_shift, col_round, col_corr, col_shift, inverse_of, inverse_of_paired, samples_of}
use Rattle.paint.specs.Paint.{sample_in_block}

pub length_columns : (round corr : ℤ) (shift : ℕ) (level : ℤ) (w : List ℤ) → length (inverse_columns_of round corr shift level w) ≡ 64
unfolding inverse_columns_of
length_columns round corr shift level w = length_tab 64 (λ i. eight_at (inverse_column_at round corr shift level w (i % 8)) (i / 8))

pub length_inverse : (ten : Bool) (level : ℤ) (a : List ℤ) → length (inverse_of ten level a) ≡ 64
unfolding inverse_of
length_inverse ten level a = length_columns (col_round ten) (col_corr ten) (col_shift ten) level (inverse_rows_of (row_round ten) (row_shift ten) a)

pub length_samples : (ten : Bool) (v : List ℤ) → length (samples_of ten v) ≡ 64
unfolding samples_of
length_samples ten v = length_tab 64 (λ i. sample_of ten (lane v i))

-- a block's sample is that of its number
pub sample_at_lem : (ten : Bool) (v : List ℤ) (i : ℕ) → i < 64 → sample_in_block (samples_of ten v) i ≡ sample_of ten (lane v i)
unfolding samples_of
sample_at_lem ten v i h = get_d_tab 64 (λ i. sample_of ten (lane v i)) i 0 h

pub flat_lt : (level dc : ℤ) → flat_sample level dc < 256
unfolding flat_sample
flat_lt level dc = sample_lt false _

-- the samples of numbers whose level was still to be added
pub level_samples : (ten : Bool) (level : ℤ) (v : List ℤ) → tab 64 (λ i. sample_of ten (adds_of (lane v i) level)) ≡ samples_of ten (level_added_of level v)
unfolding samples_of level_added_of
level_samples ten level v = tab_ext 64 (λ i h. ap (sample_of ten) (sym (get_d_tab 64 (λ i. adds_of (lane v i) level) i (pos 0) h)))

pub level_law : (ten : Bool) (level : ℤ) (a : List ℤ) → level_added_of level (inverse_of ten (pos 0) a) ≡ inverse_of ten level a
unfolding inverse_of
level_law ten level a = columns_level (col_round ten) (col_corr ten) (col_shift ten) level (inverse_rows_of (row_round ten) (row_shift ten) a)

-- the code's stages, of a block whose rows were put in pairs, are the two passes
pub paired_law : (ten : Bool) (a : List ℤ) → inverse_of_paired ten (pair_up_of a) ≡ inverse_of ten (pos 0) a
unfolding inverse_of_paired inverse_of
paired_law ten a =
    ap (λ (w : List ℤ). inverse_mirror_of (inverse_columns_of (col_round ten) (col_corr ten) (col_shift ten) (pos 0) w)) (rows_law (row_round ten) (row_shift ten) a)
    ∙ columns_mirror (col_round ten) (col_corr ten) (col_shift ten) (pos 0) (inverse_rows_of (row_round ten) (row_shift ten) a)

-- the calls of `inverse` in order, by the numbers of the depth
pub passes : (depth : Depth) (b : List ℤ) {round : ℤ} {shift : ℕ} {col_round' col_corr' : ℤ} {col_shift' : ℕ} {w v r : List ℤ}
    → round ≡ row_round (is_ten depth) → shift ≡ row_shift (is_ten depth) → col_round' ≡ col_round (is_ten depth) → col_corr' ≡ col_corr (is_ten depth) → col_shift' ≡ col_shift (is_ten depth)
    → w ≡ paired_rows round shift b inverse_tab → v ≡ inverse_columns_of col_round' col_corr' col_shift' (pos 0) w → r ≡ inverse_mirror_of v → r ≡ inverse_of_paired (is_ten depth) b
unfolding inverse_of_paired
passes depth b en es ec ed ef ew ev er = rw (er, ev, ew, en, es, ec, ed, ef) refl
