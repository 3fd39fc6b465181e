-- The DC of a block in scan order, and another in its place.
use Rattle.std.proofs.Common.{◌≡◌, ℕ, List, [], ◌∷◌, length, set, ℤ, sym, refl, ap, ◌∙◌, lit<}
use Rattle.tables.proofs.Scan.{zigzag_first}
use Rattle.quant.specs.Quantise.{coefficient, scan_of}
use Rattle.quant.proofs.Blocks.{scan_first}
use Rattle.calls.specs.Streams.{dc_of, with_dc}
use Rattle.acplaces.proofs.Scan.{scan_set}

first_of : (l : List ℤ) → dc_of l ≡ coefficient l 0
first_of [] = refl
first_of (c ∷ cs) = refl

set_first : (d : ℤ) (l : List ℤ) → with_dc d l ≡ set l 0 d
set_first d [] = refl
set_first d (c ∷ cs) = refl

pub scan_dc : (l : List ℤ) → dc_of (scan_of l) ≡ coefficient l 0
scan_dc l = first_of (scan_of l) ∙ scan_first l

pub scan_with : (l : List ℤ) (d : ℤ) → length l ≡ 64 → with_dc d (scan_of l) ≡ scan_of (set l 0 d)
scan_with l d e =
    set_first d (scan_of l) ∙ sym (scan_set l 0 d e (lit< tt)) ∙ ap (λ (j : ℕ). scan_of (set l j d)) zigzag_first
