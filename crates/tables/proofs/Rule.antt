-- A test of three numbers that antt computes, and the lemma that carries it to every dividend up to 32768.
use mathlib.Core.Path.{◌≡◌, ◌∙◌}
use mathlib.Core.Bool.{Bool, true, false}
use Prim.Native.Nat.{ℕ, zero, ◌+◌, ◌-◌, ◌*◌, ◌/◌, ◌≤◌, ◌<◌}
use native.Mathlib.Nat.{mul-le-mul_right, le_trans, lt_of_le_of_lt}
use native.Mathlib.Omega.{arith}
use lib.Dec.{T, leb, ltb, eqb, leb→le, ltb→lt, eqb→eq}
use Rattle.tables.specs.Reciprocal.{two_high, rounded}
use Rattle.tables.proofs.Every.{both, both_left, both_right}
use Rattle.tables.proofs.Divide.{over, under, one_division}

abbrev pub either : Bool → Bool → Bool
either true b = true
either false b = b

either_elim : {A : Type 0} (a b : Bool) → (T a → A) → (T b → A) → T (either a b) → A
either_elim true b l r t = l tt
either_elim false b l r t = r t

-- the multiplier is too large, by little enough
abbrev pub large : (d c f N : ℕ) → Bool
large d c f N = both (eqb c (d / 2)) (both (leb N (f * d)) (ltb ((32768 + d / 2) * (f * d - N)) N))

-- the multiplier is too small, by little enough, and the correction one more
abbrev pub small : (d c f N : ℕ) → Bool
small d c f N = both (eqb c (d / 2 + 1)) (both (ltb (f * d) N) (leb ((32768 + d / 2 + 1) * (N - f * d)) N))

-- a correction c, a reciprocal f and a scale s divide by d
abbrev pub good : (d c f s : ℕ) → Bool
good d c f s =
    both (ltb 0 d) (both (ltb 0 s) (both (eqb (65536 / s * s) 65536)
    (either (large d c f (65536 * (65536 / s))) (small d c f (65536 * (65536 / s))))))

rounds_large : (d c f N : ℕ) → zero < d → T (large d c f N) → (x : ℕ) → x ≤ 32768 → ((x + c) * f) / N ≡ rounded x d
rounds_large d c f N hd t x hx =
    let ec : c ≡ d / 2 = eqb→eq c (d / 2) (both_left (eqb c (d / 2)) _ t) in
    let t2 : T (both (leb N (f * d)) (ltb ((32768 + d / 2) * (f * d - N)) N)) = both_right (eqb c (d / 2)) _ t in
    let le : N ≤ f * d = leb→le N (f * d) (both_left (leb N (f * d)) _ t2) in
    let lt : (32768 + d / 2) * (f * d - N) < N = ltb→lt _ _ (both_right (leb N (f * d)) _ t2) in
    let fe : f * d ≡ N + (f * d - N) = omega arith in
    let m : (x + d / 2) * (f * d - N) ≤ (32768 + d / 2) * (f * d - N) = mul-le-mul_right (f * d - N) (omega arith) in
    rw ec (over d f N (f * d - N) (x + d / 2) hd fe (lt_of_le_of_lt m lt))

rounds_small : (d c f N : ℕ) → zero < d → T (small d c f N) → (x : ℕ) → x ≤ 32768 → ((x + c) * f) / N ≡ rounded x d
rounds_small d c f N hd t x hx =
    let ec : c ≡ d / 2 + 1 = eqb→eq c (d / 2 + 1) (both_left (eqb c (d / 2 + 1)) _ t) in
    let t2 : T (both (ltb (f * d) N) (leb ((32768 + d / 2 + 1) * (N - f * d)) N)) = both_right (eqb c (d / 2 + 1)) _ t in
    let lt : f * d < N = ltb→lt (f * d) N (both_left (ltb (f * d) N) _ t2) in
    let le : (32768 + d / 2 + 1) * (N - f * d) ≤ N = leb→le _ _ (both_right (ltb (f * d) N) _ t2) in
    let fe : f * d + (N - f * d) ≡ N = omega arith in
    let m : (x + d / 2 + 1) * (N - f * d) ≤ (32768 + d / 2 + 1) * (N - f * d) = mul-le-mul_right (N - f * d) (omega arith) in
    let e : x + c ≡ x + d / 2 + 1 = omega arith in
    rw e (under d f N (N - f * d) (x + d / 2) hd fe (omega arith) (le_trans m le))

pub rounds : (d c f s : ℕ) → T (good d c f s) → (x : ℕ) → x ≤ 32768 → two_high c f s x ≡ rounded x d
rounds d c f s t x hx =
    let hd : zero < d = ltb→lt 0 d (both_left (ltb 0 d) _ t) in
    let t2 : T (both (ltb 0 s) (both (eqb (65536 / s * s) 65536)
    (either (large d c f (65536 * (65536 / s))) (small d c f (65536 * (65536 / s)))))) = both_right (ltb 0 d) _ t in
    let hs : zero < s = ltb→lt 0 s (both_left (ltb 0 s) _ t2) in
    let t3 : T (both (eqb (65536 / s * s) 65536)
    (either (large d c f (65536 * (65536 / s))) (small d c f (65536 * (65536 / s))))) = both_right (ltb 0 s) _ t2 in
    let e : 65536 / s * s ≡ 65536 = eqb→eq _ _ (both_left (eqb (65536 / s * s) 65536) _ t3) in
    one_division ((x + c) * f) s (65536 / s) hs e
    ∙ either_elim (large d c f (65536 * (65536 / s))) (small d c f (65536 * (65536 / s)))
    (λ u. rounds_large d c f (65536 * (65536 / s)) hd u x hx)
    (λ u. rounds_small d c f (65536 * (65536 / s)) hd u x hx)
    (both_right (eqb (65536 / s * s) 65536) _ t3)
