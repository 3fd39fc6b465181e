-- A block of a plane: its lanes are those of the rows from its corner on.
use mathlib.Core.Path.{◌≡◌, sym, ap, ap₂, ◌∙◌}
use mathlib.Core.List.{List, map}
use Prim.Native.Nat.{ℕ, ◌+◌, ◌-◌, ◌*◌, ◌/◌, ◌%◌, ◌≤◌}
use native.Mathlib.Nat.{add-mul}
use native.Mathlib.Omega.{arith}
use lib.IntN.{ℤ, pos}
use lib.ListN.{length, get_or, take, drop, length-drop}
use lib.Seq.{get_or-drop, take_all}
use Rattle.scalar.proofs.Fill.{tab_ext}
use Rattle.sample.specs.Numbers.{lane_of}
use Rattle.sample.proofs.Lists.{samples_drop}
use Rattle.fdct.specs.Forward.{forward_of, lanes_of}
use Rattle.quant.specs.Quantise.{quantise_of, scan_of}
use Rattle.calls.specs.Arguments.{Depth, is_ten, plane}
use Rattle.calls.specs.Grid.{level}
use Rattle.slice.specs.Plane.{lanes_at, block_coefficients}

index : (j y stride k w : ℕ) → (8 * j + y) * stride + (8 * k + w) ≡ 8 * j * stride + 8 * k + (y * stride + w)
index j y stride k w = let e : (8 * j + y) * stride ≡ 8 * j * stride + y * stride = add-mul (8 * j) y stride in omega arith

sample : (l : List ℕ) (j k stride x : ℕ)
    → get_or l ((8 * j + x / 8) * stride + (8 * k + x % 8)) 0 ≡ get_or (drop (8 * j * stride + 8 * k) l) (x / 8 * stride + x % 8) 0
sample l j k stride x =
    ap (λ (n : ℕ). get_or l n 0) (index j (x / 8) stride k (x % 8)) ∙ sym (get_or-drop (8 * j * stride + 8 * k) l (x / 8 * stride + x % 8) 0)

lanes_are : (depth : Depth) (place stride : ℕ) (l : List ℕ) (j k : ℕ) → lanes_at depth (plane place stride l) j k ≡ lanes_of depth (drop (8 * j * stride + 8 * k) l) stride
unfolding lanes_at lanes_of
lanes_are depth place stride l j k = tab_ext 64 (λ x h. ap (lane_of depth) (sample l j k stride x))

-- the coefficients of the block at the corner c
module _ (depth : Depth) (lanes : List ℕ → ℕ → List ℤ)
    (same : (place stride : ℕ) (l : List ℕ) (j k : ℕ) → lanes_at depth (plane place stride l) j k ≡ lanes (drop (8 * j * stride + 8 * k) l) stride) where
  block_at_lem : (place stride preset v c : ℕ) (l : List ℕ) (j k : ℕ) {z : List ℤ} (part : List ℕ) → pos v ≡ level depth place → c ≡ 8 * j * stride + 8 * k → part ≡ drop c l
      → z ≡ scan_of (quantise_of preset (forward_of (is_ten depth) (pos v) (lanes part stride))) → z ≡ block_coefficients depth preset (plane place stride l) j k
  unfolding block_coefficients
  block_at_lem place stride preset v c l j k {z} part e f q g =
      g ∙ ap₂ (λ (x : ℤ) (y : List ℤ). scan_of (quantise_of preset (forward_of (is_ten depth) x y))) e
      (ap (λ (m : List ℕ). lanes m stride) q ∙ ap (λ (n : ℕ). lanes (drop n l) stride) f ∙ sym (same place stride l j k))

pub block_at : (depth : Depth) (place stride preset v c : ℕ) (l : List ℕ) (j k : ℕ) {z : List ℤ} (part : List ℕ) → pos v ≡ level depth place → c ≡ 8 * j * stride + 8 * k → part ≡ drop c l
    → z ≡ scan_of (quantise_of preset (forward_of (is_ten depth) (pos v) (lanes_of depth part stride))) → z ≡ block_coefficients depth preset (plane place stride l) j k
block_at depth = block_at_lem depth (lanes_of depth) (lanes_are depth)

-- the rows from the corner on, as the definitions see them, and that they are long enough for the block
pub part_samples : {A : Type 0} (number : A → ℕ) (samples : List A → List ℕ) → ((xs : List A) → samples xs ≡ map number xs) → (l : List A) (c : ℕ) → samples (take (length l - c) (drop c l)) ≡ drop c (samples l)
part_samples number samples lists l c =
    ap samples (take_all (length l - c) (drop c l) (omega (arith, length-drop c l))) ∙ samples_drop {number = number} {samples = samples} lists c l

pub part_room : {A : Type 0} (l : List A) (c stride : ℕ) → c + (7 * stride + 8) ≤ length l → 7 * stride + 8 ≤ length (take (length l - c) (drop c l))
part_room l c stride h = rw (take_all (length l - c) (drop c l) (omega (arith, length-drop c l))) (omega (arith, length-drop c l))
