-- A number stored at a place of the scan.
use mathlib.Core.Path.{◌≡◌, refl, sym, ap, ◌∙◌}
use mathlib.Core.Bool.{Bool, true, false}
use mathlib.Core.List.{List}
use Prim.Native.Nat.{ℕ, ◌<◌}
use native.Mathlib.Omega.{arith}
use borrow.Author.Tests.{eqb-true, eqb-false}
use lib.Dec.{eqb}
use lib.IntN.{ℤ, pos}
use lib.ListN.{length, get_or, set, replicate, length-set}
use lib.Seq.{get_or-set_same, get_or-set_other}
use Rattle.scalar.specs.Tab.{tab_from}
use Rattle.scalar.proofs.Fill.{list_ext}
use Rattle.tables.specs.Zigzag.{zigzag, zigzag_at, unzigzag_at}
use Rattle.tables.proofs.Scan.{unzigzag_zigzag, zigzag_below}
use Rattle.quant.specs.Quantise.{coefficient, scan_of}
use Rattle.quant.proofs.Blocks.{scan_at, scan_length}

-- the natural place of a place is below 64
pub place_below : (z : List ℕ) (place : ℕ) → z ≡ zigzag → place < 64 → get_or z place 0 < 64
place_below z place e b = rw e (zigzag_below place b)

pub scan_zero : scan_of (replicate 64 (pos 0)) ≡ replicate 64 (pos 0)
unfolding scan_of tab_from zigzag
scan_zero = refl

module _ (l : List ℤ) (i : ℕ) (v : ℤ) (e : length l ≡ 64) (h : i < 64) where
  one_place : (i k : ℕ) → i < 64 → k < 64 → zigzag_at k ≡ zigzag_at i → k ≡ i
  one_place i k h g f = sym (unzigzag_zigzag k g) ∙ ap unzigzag_at f ∙ unzigzag_zigzag i h

  by_place : (k : ℕ) → k < 64 → (b : Bool) → eqb k i ≡ b → coefficient (set l (zigzag_at i) v) (zigzag_at k) ≡ coefficient (set (scan_of l) i v) k
  by_place k g true f =
      let x : k ≡ i = eqb-true k i f in
      let z = zigzag_below i h in
      rw x (get_or-set_same l (zigzag_at i) v (pos 0) (omega arith) ∙ sym (get_or-set_same (scan_of l) i v (pos 0) (omega (arith, scan_length l))))
  by_place k g false f =
      get_or-set_other l (zigzag_at i) (zigzag_at k) v (pos 0) (λ x. eqb-false k i f (one_place i k h g x))
      ∙ sym (scan_at l k g) ∙ sym (get_or-set_other (scan_of l) i k v (pos 0) (eqb-false k i f))

  pub scan_set : scan_of (set l (zigzag_at i) v) ≡ set (scan_of l) i v
  scan_set =
      list_ext 64 (scan_of (set l (zigzag_at i) v)) (set (scan_of l) i v) (pos 0) (scan_length (set l (zigzag_at i) v)) (length-set (scan_of l) i v ∙ scan_length l)
      (λ k g. scan_at (set l (zigzag_at i) v) k g ∙ by_place k g (eqb k i) refl)
