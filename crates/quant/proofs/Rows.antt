-- The quantiser by rows: the numbers of a row are those of its places.
use mathlib.Core.Path.{◌≡◌, refl, ap, ◌∙◌}
use mathlib.Core.List.{List, [], ◌∷◌}
use Prim.Native.Nat.{ℕ, zero, suc, ◌+◌, ◌*◌, ◌<◌}
use native.Mathlib.Omega.{arith}
use borrow.Author.Rules.{sfits_of}
use lib.Dec.{lit<}
use lib.IntN.{ℤ, pos, nat_abs}
use lib.ListN.{get_or}
use mir.Syntax.{w16}
use mir.Val.{Val, SFits}
use Rattle.std.proofs.Math.Logic.{∥∥₁_elim}
use Rattle.std.proofs.Props.{props}
use denote.Array.{each}
use denote.Shadow.{shadow}
use denote.Signed.{SInt}
use Rattle.scalar.proofs.Fill.{get_d_tab}
use Rattle.lanes.specs.rows.Block.{numbers_of, row_of, block_of}
use Rattle.lanes.proofs.rows.Loops.{row_at_lem, by_place}
use Rattle.tables.specs.Divisor.{divisor}
use Rattle.tables.specs.Reciprocal.{two_high}
use Rattle.tables.specs.Entries.{Encodes, encode_of}
use Rattle.quant.specs.Quantise.{coefficient, with_sign, rounded_division, quantise_of}
use Rattle.quant.specs.Rows.{multiplied_at, multiplied_row, RowFits}
use Rattle.quant.proofs.Entry.{entry_needs, entry_divides}

-- the elements of an array of i16 have 16 bits; past its end there is 0
pub each_fits : (xs : List ℤ) (us : List Val) (i : ℕ) → shadow (each ℤ (SInt w16).own_val xs us) → SFits w16 (coefficient xs i)
each_fits [] us i p = sfits_of (lit< tt)
each_fits (x ∷ xs) [] i p = absurd p
each_fits (x ∷ xs) (u ∷ us) zero p = sfits_of p.0.1
each_fits (x ∷ xs) (u ∷ us) (suc i) p = each_fits xs us i p.1

number_at : (t : List ℕ) (at i j : ℕ) → i < 8 → at + i ≡ j → get_or (numbers_of t at) i 0 ≡ get_or t j 0
unfolding numbers_of
number_at t at i j h e = get_d_tab 8 (λ n. get_or t (at + n) 0) i 0 h ∙ ap (λ (p : ℕ). get_or t p 0) e

-- k: the numbers of a preset, w: the block
module _ (k : List ℕ) (w : List ℤ) where
  abbrev pub row_at : ℕ → List ℤ
  row_at r = multiplied_row (numbers_of k (8 * r)) (numbers_of k (64 + 8 * r)) (numbers_of k (128 + 8 * r)) (row_of w r)

  -- the calls of one turn
  pub row_of_calls : (r : ℕ) {x y : List ℤ} {c m s : List ℕ} → x ≡ row_of w r → c ≡ numbers_of k (8 * r) → m ≡ numbers_of k (64 + 8 * r) → s ≡ numbers_of k (128 + 8 * r)
      → y ≡ multiplied_row c m s x → y ≡ row_at r
  row_of_calls r ex ec em es ey = rw (ey, ex, ec, em, es) refl

  -- lane i of row r
  magnitude_at : (r i : ℕ) (x : ℤ) → i < 8 → two_high (get_or (numbers_of k (8 * r)) i 0) (get_or (numbers_of k (64 + 8 * r)) i 0) (get_or (numbers_of k (128 + 8 * r)) i 0) (nat_abs x)
      ≡ two_high (get_or k (8 * r + i) 0) (get_or k (64 + (8 * r + i)) 0) (get_or k (128 + (8 * r + i)) 0) (nat_abs x)
  magnitude_at r i x h =
      rw (number_at k (8 * r) i (8 * r + i) h refl, number_at k (64 + 8 * r) i (64 + (8 * r + i)) h (omega arith), number_at k (128 + 8 * r) i (128 + (8 * r + i)) h (omega arith)) refl

  module _ (fits : (i : ℕ) → SFits w16 (coefficient w i)) where
    pub row_fits : ∥ Encodes k ∥₁ → (r : ℕ) {x : List ℤ} {c m s : List ℕ} → r < 8 → x ≡ row_of w r → c ≡ numbers_of k (8 * r) → m ≡ numbers_of k (64 + 8 * r) → s ≡ numbers_of k (128 + 8 * r)
        → RowFits c m s x
    row_fits e r hr ex ec em es i hi =
        ∥∥₁_elim e (hlevel props)
        (λ n.
        rw (ex, ec, em, es, row_at_lem w r i hi, magnitude_at r i (coefficient w (8 * r + i)) hi, number_at k (8 * r) i (8 * r + i) hi refl)
        (entry_needs n.preset (8 * r + i) k (coefficient w (8 * r + i)) n.preset_lt (omega arith) n.numbers (fits (8 * r + i))))

    pub block_law : (preset : ℕ) → preset < 25 → k ≡ encode_of preset → block_of row_at ≡ quantise_of preset w
    unfolding multiplied_row quantise_of
    block_law preset hp e =
        by_place row_at (λ i. rounded_division (coefficient w i) (divisor preset i))
        (λ r i hr hi.
        get_d_tab 8 (λ n. with_sign (coefficient (row_of w r) n) (multiplied_at (numbers_of k (8 * r)) (numbers_of k (64 + 8 * r)) (numbers_of k (128 + 8 * r)) (row_of w r) n)) i (pos 0) hi
        ∙ rw (row_at_lem w r i hi, magnitude_at r i (coefficient w (8 * r + i)) hi)
        (entry_divides preset (8 * r + i) k (coefficient w (8 * r + i)) hp (omega arith) e (fits (8 * r + i))))
