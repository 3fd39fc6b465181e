-- Where the code's loops read and store: each turn's places, against those of the definitions.
use mathlib.Core.Path.{◌≡◌, refl, sym, ap, ◌∙◌}
use mathlib.Core.List.{List, [], ◌∷◌}
use Prim.Native.Nat.{ℕ, ◌+◌, ◌*◌, ◌/◌, ◌%◌, ◌<◌, ◌≤◌}
use native.Mathlib.Omega.{arith}
use native.Mathlib.Nat.{mul-le-mul_right}
use lib.IntN.{ℤ, pos}
use lib.ListN.{get_or, length}
use Rattle.std.specs.Prelude.{map}
use Rattle.scalar.specs.Tab.{tab}
use Rattle.scalar.proofs.Fill.{get_d_tab}
use Rattle.scalar.proofs.InRows.{row_of_lem, col_of}
use Rattle.lanes.specs.rows.Block.{block_of}
use Rattle.sample.proofs.Lists.{samples_at}
use Rattle.lanes.proofs.rows.Loops.{by_place}

-- rows of samples: row r begins at r * stride
pub rows_fit : (r stride : ℕ) → r < 8 → r * stride ≤ 7 * stride
rows_fit r stride p = mul-le-mul_right stride (omega arith)

load_place : (r stride k : ℕ) → k < 8 → r * stride + k ≡ (8 * r + k) / 8 * stride + (8 * r + k) % 8
load_place r stride k h = rw (row_of_lem r k h, col_of r k h) refl

-- the block of eight rows of samples; f makes a sample's lane
pub rows_loaded : (f : ℕ → ℤ) (rows : List ℕ) (stride : ℕ)
    → block_of (λ r. tab 8 (λ k. f (get_or rows (r * stride + k) 0))) ≡ tab 64 (λ i. f (get_or rows (i / 8 * stride + i % 8) 0))
rows_loaded f rows stride =
    by_place (λ r. tab 8 (λ k. f (get_or rows (r * stride + k) 0))) (λ i. f (get_or rows (i / 8 * stride + i % 8) 0))
    (λ r k g h. get_d_tab 8 (λ k. f (get_or rows (r * stride + k) 0)) k (pos 0) h ∙ ap (λ (n : ℕ). f (get_or rows n 0)) (load_place r stride k h))

-- what is said of a sample's number is said of that number in the list of numbers; `lists` is the law of the trait
pub number_read : {A : Type 0} {number : A → ℕ} {samples : List A → List ℕ} → ((xs : List A) → samples xs ≡ map number xs)
    → (f : ℕ → ℤ) (xs : List A) (n : ℕ) {y : ℤ} → n < length xs → ((x : A) → y ≡ f (number (get_or xs n x))) → y ≡ f (get_or (samples xs) n 0)
number_read lists f [] n h m = absurd (omega arith)
number_read {number} {samples} lists f (x ∷ xs) n h m = m x ∙ ap f (sym (samples_at {number = number} {samples = samples} lists (x ∷ xs) n x h))
