-- Laws of zero bytes in a row. Assumes nothing.
use mathlib.Core.Path.{◌≡◌, refl, sym, ap, ap₂, ◌∙◌}
use mathlib.Core.Bool.{Bool, true, false, not, ◌&&◌, and-true}
use mathlib.Core.List.{List, [], ◌∷◌}
use Prim.Native.Nat.{ℕ, zero, suc, ◌+◌, ◌-◌, ◌≤◌, ◌<◌, suc-le-suc}
use native.Mathlib.Nat.{not-suc-le-zero, le_of_suc-le-suc}
use native.Mathlib.Omega.{arith}
use borrow.Author.Tests.{eq-eqb, ne_eqb}
use lib.Dec.{eqb}
use lib.Bits.{bit_or, or_add_and, and_le_l, and_le_r}
use lib.ListN.{length, drop, get_or, length-drop}
use lib.Seq.{drop-cons, drop-nil, drop-drop, get_or-drop}
use Rattle.bits.specs.Bits.{bit}
use Rattle.bitreader.specs.scan.Six.{zero_bytes, no_six_zeros}

-- ---- the test of six bytes

or_none : (a b : ℕ) → bit_or a b ≡ 0 → (a ≡ 0) × (b ≡ 0)
or_none a b h = (omega (arith, or_add_and a b, and_le_l a b, and_le_r a b), omega (arith, or_add_and a b, and_le_l a b, and_le_r a b))

or_zero : (a b : ℕ) → eqb (bit_or a b) 0 ≡ (eqb a 0 && eqb b 0)
or_zero a b = go a b refl refl
  where
    go : (x y : ℕ) → a ≡ x → b ≡ y → eqb (bit_or a b) 0 ≡ (eqb a 0 && eqb b 0)
    go zero zero e f = rw (e, f)
    go (suc x) y e f =
        let n : bit_or a b ≡ 0 → ⊥ = λ z. let q : a ≡ 0 = (or_none a b z).0 in omega arith in
        let m : a ≡ 0 → ⊥ = λ z. omega arith in
        ne_eqb (bit_or a b) 0 n ∙ sym (ap (λ (t : Bool). t && eqb b 0) (ne_eqb a 0 m))
    go zero (suc y) e f =
        let n : bit_or a b ≡ 0 → ⊥ = λ z. let q : b ≡ 0 = (or_none a b z).1 in omega arith in
        let m : b ≡ 0 → ⊥ = λ z. omega arith in
        ne_eqb (bit_or a b) 0 n ∙ sym (ap₂ (λ (t u : Bool). t && u) (eq-eqb a 0 e) (ne_eqb b 0 m))

pub six_test : (a b c d e f : ℕ) → eqb (bit_or (bit_or (bit_or (bit_or (bit_or a b) c) d) e) f) 0 ≡ zero_bytes 6 (a ∷ b ∷ c ∷ d ∷ e ∷ f ∷ [])
unfolding zero_bytes
six_test a b c d e f =
    or_zero (bit_or (bit_or (bit_or (bit_or a b) c) d) e) f
    ∙ ap (λ (t : Bool). t && eqb f 0) (or_zero (bit_or (bit_or (bit_or a b) c) d) e
    ∙ ap (λ (t : Bool). t && eqb e 0) (or_zero (bit_or (bit_or a b) c) d
    ∙ ap (λ (t : Bool). t && eqb d 0) (or_zero (bit_or a b) c
    ∙ ap (λ (t : Bool). t && eqb c 0) (or_zero a b))))
    ∙ regroup (eqb a 0) (eqb b 0) (eqb c 0) (eqb d 0) (eqb e 0) (eqb f 0)
  where
    regroup : (a b c d e f : Bool) → (((((a && b) && c) && d) && e) && f) ≡ (a && (b && (c && (d && (e && (f && true))))))
    regroup true true true true true f = sym (and-true f)
    regroup true true true true false f = refl
    regroup true true true false e f = refl
    regroup true true false d e f = refl
    regroup true false c d e f = refl
    regroup false b c d e f = refl

-- ---- one place more

zero_step_lem : (n : ℕ) (l : List ℕ) (i j : ℕ) → i < length l → suc i ≡ j → zero_bytes (suc n) (drop i l) ≡ (eqb (get_or l i 0) 0 && zero_bytes n (drop j l))
unfolding zero_bytes
zero_step_lem n l i j h e = ap (zero_bytes (suc n)) (drop-cons l i 0 h) ∙ ap (λ (x : ℕ). eqb (get_or l i 0) 0 && zero_bytes n (drop x l)) e

six_at : (l : List ℕ) (i : ℕ) → i + 5 < length l
    → zero_bytes 6 (drop i l) ≡ zero_bytes 6 (get_or l i 0 ∷ get_or l (i + 1) 0 ∷ get_or l (i + 2) 0 ∷ get_or l (i + 3) 0 ∷ get_or l (i + 4) 0 ∷ get_or l (i + 5) 0 ∷ [])
unfolding zero_bytes
six_at l i h =
    zero_step_lem 5 l i (i + 1) (omega arith) (omega arith)
    ∙ ap (λ (t : Bool). eqb (get_or l i 0) 0 && t) (zero_step_lem 4 l (i + 1) (i + 2) (omega arith) (omega arith)
    ∙ ap (λ (t : Bool). eqb (get_or l (i + 1) 0) 0 && t) (zero_step_lem 3 l (i + 2) (i + 3) (omega arith) (omega arith)
    ∙ ap (λ (t : Bool). eqb (get_or l (i + 2) 0) 0 && t) (zero_step_lem 2 l (i + 3) (i + 4) (omega arith) (omega arith)
    ∙ ap (λ (t : Bool). eqb (get_or l (i + 3) 0) 0 && t) (zero_step_lem 1 l (i + 4) (i + 5) (omega arith) (omega arith)
    ∙ ap (λ (t : Bool). eqb (get_or l (i + 4) 0) 0 && t) (zero_step_lem 0 l (i + 5) (i + 6) (omega arith) (omega arith))))))

no_six_step : (l : List ℕ) (i : ℕ) → i < length l → no_six_zeros (drop i l) ≡ (not (zero_bytes 6 (drop i l)) && no_six_zeros (drop (suc i) l))
unfolding no_six_zeros
no_six_step l i h =
    ap no_six_zeros (drop-cons l i 0 h)
    ∙ sym (ap (λ (m : List ℕ). not (zero_bytes 6 m) && no_six_zeros (drop (suc i) l)) (drop-cons l i 0 h))

-- what was found so far, 0 or 1, and one place more
pub found_more : (l : List ℕ) (i f g : ℕ) (b : Bool) → i + 5 < length l → f < 2
    → g ≡ bit (zero_bytes 6 (get_or l i 0 ∷ get_or l (i + 1) 0 ∷ get_or l (i + 2) 0 ∷ get_or l (i + 3) 0 ∷ get_or l (i + 4) 0 ∷ get_or l (i + 5) 0 ∷ []))
    → b ≡ (eqb f 0 && no_six_zeros (drop i l)) → (b ≡ (eqb (bit_or f g) 0 && no_six_zeros (drop (i + 1) l))) × (bit_or f g < 2)
found_more l i f g b h small eg eb =
    let e1 : g ≡ bit (zero_bytes 6 (drop i l)) = eg ∙ ap bit (sym (six_at l i h)) in
    let e2 : b ≡ (eqb f 0 && (not (zero_bytes 6 (drop i l)) && no_six_zeros (drop (suc i) l))) = eb ∙ ap (λ (t : Bool). eqb f 0 && t) (no_six_step l i (omega arith)) in
    let e3 : suc i ≡ i + 1 = omega arith in
    let r = both f (zero_bytes 6 (drop i l)) (no_six_zeros (drop (suc i) l)) small in
    (e2 ∙ r.0 ∙ ap₂ (λ (y k : ℕ). eqb (bit_or f y) 0 && no_six_zeros (drop k l)) (sym e1) e3, rw e1 r.1)
  where
    both : (f : ℕ) (z t : Bool) → f < 2 → ((eqb f 0 && (not z && t)) ≡ (eqb (bit_or f (bit z)) 0 && t)) × (bit_or f (bit z) < 2)
    both zero true t h = (refl, omega arith)
    both zero false t h = (refl, omega arith)
    both (suc zero) true t h = (refl, omega arith)
    both (suc zero) false t h = (refl, omega arith)
    both (suc (suc f)) z t h = absurd (omega arith)

-- ---- too short a row

zero_short : (n : ℕ) (l : List ℕ) → length l < n → zero_bytes n l ≡ false
unfolding zero_bytes
zero_short zero l h = absurd (not-suc-le-zero h)
zero_short (suc n) [] h = refl
zero_short (suc n) (b ∷ l) h = ap (λ (t : Bool). eqb b 0 && t) (zero_short n l (le_of_suc-le-suc h)) ∙ none (eqb b 0)
  where
    none : (t : Bool) → (t && false) ≡ false
    none true = refl
    none false = refl

no_six_short : (l : List ℕ) → length l < 6 → no_six_zeros l ≡ true
unfolding no_six_zeros
no_six_short [] h = refl
no_six_short (b ∷ l) h = ap₂ (λ (t u : Bool). not t && u) (zero_short 6 (b ∷ l) h) (no_six_short l (omega arith))

pub no_six_end : (l : List ℕ) (i : ℕ) → length l ≤ i + 5 → no_six_zeros (drop i l) ≡ true
no_six_end l i h = no_six_short (drop i l) (omega (arith, length-drop i l))

-- ---- what the test says

no_true : (b : Bool) → b ≡ true → b ≡ false → ⊥
no_true b e f = let n : ◌≡◌ {A = ℕ} 0 1 = ap bit (sym f ∙ e) in omega arith

both_true : (x y : Bool) → (x && y) ≡ true → (x ≡ true) × (y ≡ true)
both_true true y h = (refl, h)
both_true false y h = absurd (no_true false h refl)

not_true : (x : Bool) → not x ≡ true → x ≡ false
not_true true h = sym h
not_true false h = refl

no_six_at : (l : List ℕ) (i : ℕ) → no_six_zeros l ≡ true → zero_bytes 6 (drop i l) ≡ true → ⊥
unfolding no_six_zeros
no_six_at [] i h z = no_true (zero_bytes 6 (drop i [])) z (ap (zero_bytes 6) (drop-nil i) ∙ zero_short 6 [] (omega arith))
no_six_at (b ∷ l) zero h z = no_true (zero_bytes 6 (b ∷ l)) z (not_true (zero_bytes 6 (b ∷ l)) (both_true (not (zero_bytes 6 (b ∷ l))) (no_six_zeros l) h).0)
no_six_at (b ∷ l) (suc i) h z = no_six_at l i (both_true (not (zero_bytes 6 (b ∷ l))) (no_six_zeros l) h).1 z

-- from some byte on
pub no_six_from : (l : List ℕ) (i j : ℕ) → i ≤ j → no_six_zeros (drop i l) ≡ true → zero_bytes 6 (drop j l) ≡ true → ⊥
no_six_from l i j h n z =
    let e : i + (j - i) ≡ j = omega arith in
    no_six_at (drop i l) (j - i) n (ap (zero_bytes 6) (drop-drop (j - i) i l ∙ ap (λ (x : ℕ). drop x l) e) ∙ z)

-- bytes that are zero, one by one. Past the end stands 255
zero_all : (n : ℕ) (l : List ℕ) → ((k : ℕ) → k < n → get_or l k 255 ≡ 0) → zero_bytes n l ≡ true
unfolding zero_bytes
zero_all zero l h = refl
zero_all (suc n) [] h = let z : ◌≡◌ {A = ℕ} 255 0 = h 0 (omega arith) in absurd (omega arith)
zero_all (suc n) (b ∷ l) h = ap₂ (λ (t u : Bool). t && u) (eq-eqb b 0 (h 0 (omega arith))) (zero_all n l (λ k g. h (suc k) (suc-le-suc g)))

pub zero_from : (n : ℕ) (l : List ℕ) (j : ℕ) → ((k : ℕ) → k < n → get_or l (j + k) 255 ≡ 0) → zero_bytes n (drop j l) ≡ true
zero_from n l j h = zero_all n (drop j l) (λ k g. get_or-drop j l k 255 ∙ h k g)
