-- A test that antt computes at each number below n, and the law that hands over what it tests at each.
use mathlib.Core.Bool.{Bool, true, false}
use Prim.Native.Nat.{ℕ, zero, suc, ◌+◌, ◌<◌}
use native.Mathlib.Omega.{arith}
use mathlib.Core.Path.{◌≡◌}
use native.Mathlib.Nat.{le_of_suc-le-suc, not-suc-le-zero}
use lib.Dec.{T}

abbrev pub both : Bool → Bool → Bool
both true b = b
both false b = false

pub both_left : (a b : Bool) → T (both a b) → T a
both_left true b t = tt
both_left false b t = t

pub both_right : (a b : Bool) → T (both a b) → T b
both_right true b t = t
both_right false b t = absurd t

-- the test g at k, k + 1, ..: n of them
abbrev pub every_from : (ℕ → Bool) → ℕ → ℕ → Bool
every_from g k zero = true
every_from g k (suc n) = both (g k) (every_from g (suc k) n)

from : (g : ℕ → Bool) (k n i : ℕ) → T (every_from g k n) → i < n → T (g (i + k))
from g k zero i t h = absurd (not-suc-le-zero h)
from g k (suc n) zero t h =
    let e : 0 + k ≡ k = omega arith in
    rw e (both_left (g k) (every_from g (suc k) n) t)
from g k (suc n) (suc i) t h =
    let e : suc i + k ≡ i + suc k = omega arith in
    rw e (from g (suc k) n i (both_right (g k) (every_from g (suc k) n) t) (le_of_suc-le-suc h))

pub every : (g : ℕ → Bool) (n : ℕ) → T (every_from g 0 n) → (i : ℕ) → i < n → T (g i)
every g n t i h =
    let e : i + 0 ≡ i = omega arith in
    rw e at (from g 0 n i t h)
