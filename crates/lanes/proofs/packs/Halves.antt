-- Lane k of four lanes followed by four.
use mathlib.Core.Path.{◌≡◌, ◌∙◌, ap}
use mathlib.Core.List.{List, ◌++◌}
use Prim.Native.Nat.{ℕ, ◌+◌, ◌-◌, ◌<◌, ◌≤◌}
use native.Mathlib.Omega.{arith}
use lib.IntN.{ℤ, pos}
use lib.ListN.{length, get_or-append}
use lib.Seq.{get_or-append-add}
use Rattle.scalar.specs.Tab.{lane}

pub joined_low : (a b : List ℤ) (k : ℕ) → length a ≡ 4 → k < 4 → lane (a ++ b) k ≡ lane a k
joined_low a b k e h = get_or-append a b (pos 0) k (omega arith)

pub joined_high : (a b : List ℤ) (k : ℕ) → length a ≡ 4 → 4 ≤ k → lane (a ++ b) k ≡ lane b (k - 4)
joined_high a b k e h =
    let i : k ≡ length a + (k - 4) = omega arith in
    ap (lane (a ++ b)) i ∙ get_or-append-add a b (k - 4) (pos 0)
