-- Rows and room, compared by division.
use mathlib.Core.Path.{◌≡◌, refl, sym}
use mathlib.Core.Bool.{Bool, true, false}
use Prim.Native.Nat.{ℕ, ◌+◌, ◌-◌, ◌*◌, ◌/◌, ◌≤◌, ◌<◌}
use native.Mathlib.Nat.{le-div_iff_mul-le, div-lt_iff_lt-mul, mul_comm}
use native.Mathlib.Omega.{arith}
use lib.Dec.{leb}
use borrow.Author.Tests.{le-leb, lt-leb, leb-true, leb-false}

pub rows_by_division : (stride n : ℕ) → leb stride (n / 16) ≡ leb (16 * stride) n
rows_by_division stride n = go (leb (16 * stride) n) refl
  where
    go : (b : Bool) → leb (16 * stride) n ≡ b → leb stride (n / 16) ≡ b
    go true e = let h : 16 * stride ≤ n = leb-true (16 * stride) n e in le-leb stride (n / 16) (omega arith)
    go false e = let h : n < 16 * stride = leb-false (16 * stride) n e in lt-leb stride (n / 16) (omega arith)

pub no_room_lem : (at need n : ℕ) → n < at → false ≡ leb (at + need) n
no_room_lem at need n h = sym (lt-leb (at + need) n (omega arith))

mul_le : (k x y : ℕ) → 0 < k → x ≤ y / k → k * x ≤ y
mul_le k x y h l = rw (mul_comm k x) ((le-div_iff_mul-le {k = k} {x = x} {y = y} h).0 l)

lt_mul : (k x y : ℕ) → 0 < k → y / k < x → y < k * x
lt_mul k x y h l = rw (mul_comm k x) ((div-lt_iff_lt-mul {k = k} {x = y} {y = x} h).0 l)

pub room_by_division : (at k x n : ℕ) → 0 < k → at ≤ n → leb x ((n - at) / k) ≡ leb (at + k * x) n
room_by_division at k x n h l = go (leb x ((n - at) / k)) refl
  where
    go : (b : Bool) → leb x ((n - at) / k) ≡ b → b ≡ leb (at + k * x) n
    go true e = sym (le-leb (at + k * x) n (omega (arith, mul_le k x (n - at) h (leb-true _ _ e))))
    go false e = sym (lt-leb (at + k * x) n (omega (arith, lt_mul k x (n - at) h (leb-false _ _ e))))
