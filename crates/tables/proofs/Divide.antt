-- Rounded division as two high multiplies: the law, for every divisor and every multiplier.
use mathlib.Core.Path.{◌≡◌, sym, ◌∙◌, subst}
use Prim.Native.Nat.{ℕ, zero, suc, ◌+◌, ◌*◌, ◌/◌, ◌≤◌, ◌<◌}
use native.Mathlib.Nat.{le_trans, le_of_eq, lt-suc_self, mul_right_comm, mul_assoc, mul-add, suc-mul, mul-le-mul_right, le_of_mul-le-mul_right, lt_of_mul-lt-mul_right, div-mul-le_self, div-lt_iff_lt-mul, div-eq_of_lt-le, div-div-eq-div-mul, mul-div-mul_right, mul-pos}
use native.Mathlib.Numerals.{add-one}
use native.Mathlib.Omega.{arith}

-- the two high multiplies are one division: s * P = 65536
pub one_division : (w s P : ℕ) → zero < s → P * s ≡ 65536 → (w / 65536 * s) / 65536 ≡ w / (65536 * P)
one_division w s P hs e =
    subst (λ (m : ℕ). (w / 65536 * s) / m ≡ w / (65536 * P)) e
    (mul-div-mul_right (w / 65536) P hs ∙ div-div-eq-div-mul w 65536 P)

next_le : (d P n : ℕ) → zero < d → n * P + P ≤ suc (n / d) * P * d
next_le d P n hd =
    le_trans (le_of_eq (sym (suc-mul n P)))
    (le_trans (mul-le-mul_right P ((div-lt_iff_lt-mul hd).0 (lt-suc_self (n / d)))) (le_of_eq (mul_right_comm (suc (n / d)) d P)))

floor_le : (d P n : ℕ) → n / d * P * d ≤ n * P
floor_le d P n = le_trans (le_of_eq (mul_right_comm (n / d) P d)) (mul-le-mul_right P (div-mul-le_self n d))

-- a multiplier that is too large by e: f * d = N + e, and y * e < N
pub over : (d f N e y : ℕ) → zero < d → f * d ≡ N + e → y * e < N → (y * f) / N ≡ y / d
over d f N e y hd fe small =
    let p : y * f * d ≡ y * N + y * e = mul_assoc y f d ∙ rw fe (mul-add y N e) in
    let lo : y / d * N ≤ y * f = le_of_mul-le-mul_right {k = d} (omega (arith, floor_le d N y)) hd in
    let hi : y * f < suc (y / d) * N = lt_of_mul-lt-mul_right d (omega (arith, next_le d N y hd)) in
    div-eq_of_lt-le N lo (rw add-one hi)

-- a multiplier that is too small by g: f * d + g = N, the dividend one more, and (y + 1) * g ≤ N
pub under : (d f N g y : ℕ) → zero < d → f * d + g ≡ N → zero < g → (y + 1) * g ≤ N → ((y + 1) * f) / N ≡ y / d
under d f N g y hd fe hg small =
    let z : ℕ = y + 1 in
    let p : (y + 1) * f * d + (y + 1) * g ≡ y * N + N =
    rw (mul_assoc (y + 1) f d, ← mul-add (y + 1) (f * d) g, fe, add-one, suc-mul) in
    let pos : zero < (y + 1) * g = mul-pos (omega arith) hg in
    let lo : y / d * N ≤ (y + 1) * f = le_of_mul-le-mul_right {k = d} (omega (arith, floor_le d N y)) hd in
    let hi : (y + 1) * f < suc (y / d) * N = lt_of_mul-lt-mul_right d (omega (arith, next_le d N y hd)) in
    div-eq_of_lt-le N lo (rw (add-one (y / d)) hi)
