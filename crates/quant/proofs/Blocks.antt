-- Blocks place by place; the scan and its inverse.
use mathlib.Core.Path.{◌≡◌, sym, ap, ◌∙◌}
use mathlib.Core.List.{List}
use Prim.Native.Nat.{ℕ, ◌<◌}
use lib.Dec.{lit<}
use lib.IntN.{ℤ, pos}
use lib.ListN.{length}
use Rattle.scalar.proofs.Fill.{length_tab, get_d_tab, tab_ext, list_tab}
use Rattle.tables.specs.Divisor.{divisor, divisors_of}
use Rattle.tables.specs.Zigzag.{zigzag_at, unzigzag_at}
use Rattle.tables.proofs.Places.{divisors_at}
use Rattle.tables.proofs.Scan.{zigzag_unzigzag, unzigzag_zigzag, zigzag_below, unzigzag_below, zigzag_first}
use Rattle.quant.specs.Quantise.{coefficient, rounded_division, quantise_of, scan_of, natural_of, dequantised, dequantise_with, dequantise_by}

pub quantise_at : (p : ℕ) (l : List ℤ) (i : ℕ) → i < 64 → coefficient (quantise_of p l) i ≡ rounded_division (coefficient l i) (divisor p i)
unfolding quantise_of
quantise_at p l i h = get_d_tab 64 (λ i. rounded_division (coefficient l i) (divisor p i)) i (pos 0) h

pub scan_length : (l : List ℤ) → length (scan_of l) ≡ 64
unfolding scan_of
scan_length l = length_tab 64 (λ i. coefficient l (zigzag_at i))

pub scan_at : (l : List ℤ) (i : ℕ) → i < 64 → coefficient (scan_of l) i ≡ coefficient l (zigzag_at i)
unfolding scan_of
scan_at l i h = get_d_tab 64 (λ i. coefficient l (zigzag_at i)) i (pos 0) h

-- the first coefficient stays the first
pub scan_first : (l : List ℤ) → coefficient (scan_of l) 0 ≡ coefficient l 0
scan_first l = scan_at l 0 (lit< tt) ∙ ap (coefficient l) zigzag_first

pub natural_at : (l : List ℤ) (j : ℕ) → j < 64 → coefficient (natural_of l) j ≡ coefficient l (unzigzag_at j)
unfolding natural_of
natural_at l j h = get_d_tab 64 (λ j. coefficient l (unzigzag_at j)) j (pos 0) h

pub natural_scan : (l : List ℤ) → length l ≡ 64 → natural_of (scan_of l) ≡ l
unfolding natural_of
natural_scan l e =
    tab_ext 64 (λ j h. scan_at l (unzigzag_at j) (unzigzag_below j h) ∙ ap (coefficient l) (zigzag_unzigzag j h))
    ∙ sym (list_tab 64 l (pos 0) e)

pub scan_natural : (l : List ℤ) → length l ≡ 64 → scan_of (natural_of l) ≡ l
unfolding scan_of
scan_natural l e =
    tab_ext 64 (λ i h. natural_at l (zigzag_at i) (zigzag_below i h) ∙ ap (coefficient l) (unzigzag_zigzag i h))
    ∙ sym (list_tab 64 l (pos 0) e)

-- the divisors of a preset
pub dequantise_with_lem : (s p : ℕ) (d : List ℕ) (l : List ℤ) → d ≡ divisors_of p → dequantise_with s d l ≡ dequantise_by s p l
unfolding dequantise_with dequantise_by
dequantise_with_lem s p d l e = tab_ext 64 (λ i h. ap (λ (z : ℕ). dequantised s z (coefficient l i)) (divisors_at p i d e h))
