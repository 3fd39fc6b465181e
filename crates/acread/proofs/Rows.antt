-- Two rows of w blocks: how many are left in row j after its first k, and in the rows after it.
use mathlib.Core.Path.{◌≡◌, ap, ◌∙◌}
use Prim.Native.Nat.{ℕ, suc, ◌+◌, ◌-◌, ◌*◌, ◌≤◌, ◌<◌}
use native.Mathlib.Nat.{add-mul, one-mul, zero-mul}
use native.Mathlib.Omega.{arith}

pub row_first : (j w : ℕ) → j < 2 → (2 - j) * w ≡ (w - 0) + (2 - (j + 1)) * w
row_first j w h =
    let e : 2 - j ≡ 1 + (2 - (j + 1)) = omega arith in
    ap (λ (x : ℕ). x * w) e ∙ add-mul 1 (2 - (j + 1)) w ∙ omega (arith, one-mul w)

pub row_next : (j k w : ℕ) → k < w → (w - k) + (2 - (j + 1)) * w ≡ suc ((w - (k + 1)) + (2 - (j + 1)) * w)
row_next j k w h = omega arith

pub row_last : (j k w : ℕ) → w ≤ k → (w - k) + (2 - (j + 1)) * w ≡ (2 - (j + 1)) * w
row_last j k w h = omega arith

pub rows_over : (j w : ℕ) → 2 ≤ j → (2 - j) * w ≡ 0
rows_over j w h =
    let e : 2 - j ≡ 0 = omega arith in
    ap (λ (x : ℕ). x * w) e ∙ zero-mul w
