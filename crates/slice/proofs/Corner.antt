-- Where the block in block row j and block column k lies in its plane's rows: place n counts from its corner.
use mathlib.Core.Path.{◌≡◌, sym, ap, ap₂, ◌∙◌}
use Prim.Native.Nat.{ℕ, ◌+◌, ◌*◌, ◌/◌, ◌%◌, ◌<◌, ◌≤◌}
use native.Mathlib.Nat.{add-mul, div-add-mod', div-lt_iff_lt-mul, mod-lt}
use native.Mathlib.Omega.{arith}
use lib.Arith.{digits_lt, digits_div, digits_mod}
use Rattle.calls.specs.Grid.{columns_of, blocks_of}
use Rattle.slice.specs.Plane.{block_at, within_block}

-- blocks end where a row ends
column_below : (stride i : ℕ) → stride % 8 ≡ 0 → i < 16 * stride → i % stride / 8 < columns_of stride
column_below stride i eights h = omega (arith, mod-lt i {m = stride} (omega arith))

-- the 16 rows are in the plane's blocks
pub block_below : (stride i : ℕ) → stride % 8 ≡ 0 → i < 16 * stride → block_at stride i < blocks_of stride
block_below stride i eights h =
    let r : i / stride < 16 = (div-lt_iff_lt-mul {k = stride} {x = i} {y = 16} (omega arith)).1 h in
    digits_lt {q = i / stride / 8} {m = 2} (omega arith) (column_below stride i eights h)

module _ (stride j k : ℕ) (eights : stride % 8 ≡ 0) (in_row : k < columns_of stride) where
  place_at : (n : ℕ) → 8 * j * stride + 8 * k + n ≡ (8 * j + n / stride) * stride + (8 * k + n % stride)
  place_at n = omega (arith, add-mul (8 * j) (n / stride) stride, div-add-mod' n stride)

  row_at_lem : (n : ℕ) → n % stride < 8 → (8 * j * stride + 8 * k + n) / stride ≡ 8 * j + n / stride
  row_at_lem n h = ap (λ (i : ℕ). i / stride) (place_at n) ∙ digits_div (8 * j + n / stride) (omega arith)

  column_at : (n : ℕ) → n % stride < 8 → (8 * j * stride + 8 * k + n) % stride ≡ 8 * k + n % stride
  column_at n h = ap (λ (i : ℕ). i % stride) (place_at n) ∙ digits_mod (8 * j + n / stride) (omega arith)

  -- eight rows and eight columns from the corner on are the block's
  pub block_at_lem : (n : ℕ) → n / stride < 8 → n % stride < 8 → block_at stride (8 * j * stride + 8 * k + n) ≡ j * columns_of stride + k
  block_at_lem n hy hx =
      let a : (8 * j + n / stride) / 8 ≡ j = omega arith in
      let b : (8 * k + n % stride) / 8 ≡ k = omega arith in
      ap₂ (λ (r c : ℕ). r / 8 * (stride / 8) + c / 8) (row_at_lem n hx) (column_at n hx) ∙ ap₂ (λ (r c : ℕ). r * (stride / 8) + c) a b

  pub within_at : (n : ℕ) → n / stride < 8 → n % stride < 8 → within_block stride (8 * j * stride + 8 * k + n) ≡ n / stride * 8 + n % stride
  within_at n hy hx =
      let a : (8 * j + n / stride) % 8 ≡ n / stride = omega arith in
      let b : (8 * k + n % stride) % 8 ≡ n % stride = omega arith in
      ap₂ (λ (r c : ℕ). r % 8 * 8 + c % 8) (row_at_lem n hx) (column_at n hx) ∙ ap₂ (λ (r c : ℕ). r * 8 + c) a b

  pub inside_at : (n : ℕ) → j < 2 → n / stride < 8 → n % stride < 8 → 8 * j * stride + 8 * k + n < 16 * stride
  inside_at n hj hy hx = rw place_at (digits_lt {q = 8 * j + n / stride} {m = 16} (omega arith) (omega arith))

  -- and no other place of the 16 rows is
  found : (i : ℕ) → block_at stride i ≡ j * columns_of stride + k → i ≡ 8 * j * stride + 8 * k + (i / stride % 8 * stride + i % stride % 8)
  found i e =
      let c : i % stride / 8 < stride / 8 = omega (arith, mod-lt i {m = stride} (omega arith)) in
      let r : i / stride / 8 ≡ j = sym (digits_div (i / stride / 8) c) ∙ ap (λ (n : ℕ). n / (stride / 8)) e ∙ digits_div j in_row in
      let s : i % stride / 8 ≡ k = sym (digits_mod (i / stride / 8) c) ∙ ap (λ (n : ℕ). n % (stride / 8)) e ∙ digits_mod j in_row in
      let a : i / stride ≡ 8 * j + i / stride % 8 = omega arith in
      let b : i % stride ≡ 8 * k + i % stride % 8 = omega arith in
      sym (div-add-mod' i stride) ∙ ap₂ (λ (r c : ℕ). r * stride + c) a b ∙ omega (arith, add-mul (8 * j) (i / stride % 8) stride)

  pub not_before : (i : ℕ) → block_at stride i ≡ j * columns_of stride + k → 8 * j * stride + 8 * k ≤ i
  not_before i e = omega (arith, found i e)

  pub only_here : (n : ℕ) → block_at stride (8 * j * stride + 8 * k + n) ≡ j * columns_of stride + k → (n / stride < 8) × (n % stride < 8)
  only_here n e =
      let i = 8 * j * stride + 8 * k + n in
      let f : n ≡ i / stride % 8 * stride + i % stride % 8 = omega (arith, found i e) in
      let y : n / stride ≡ i / stride % 8 = ap (λ (x : ℕ). x / stride) f ∙ digits_div (i / stride % 8) (omega arith) in
      let x : n % stride ≡ i % stride % 8 = ap (λ (x : ℕ). x % stride) f ∙ digits_mod (i / stride % 8) (omega arith) in
      (omega arith, omega arith)
