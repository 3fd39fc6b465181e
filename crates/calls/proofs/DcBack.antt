-- The DC stream is read back: the steps as they were coded, and with the prediction each coded DC shifted back.
use mathlib.Core.Path.{◌≡◌, refl, sym, ap, ◌∙◌}
use mathlib.Core.Bool.{Bool, true, false, cond}
use mathlib.Core.List.{List, [], ◌∷◌, map}
use Prim.Native.Nat.{ℕ, zero, suc, ◌+◌, ◌^◌, ◌-◌, ◌≤◌, ◌<◌}
use native.Mathlib.Nat.{add-zero, add_assoc}
use native.Mathlib.Omega.{arith}
use lib.IntN.{ℤ, pos, negsuc, nat_abs, sub_ℕ, ◌-ℤ◌}
use lib.Signed.{mag}
use lib.ListN.{length, replicate, length-append}
use lib.Dec.{ltb}
use borrow.Author.Tests.{ltb-true, ltb-false}
use Rattle.scalar.specs.Scalar.{wrap16, add_of, sll_of}
use Rattle.bits.specs.Bits.{value_code, Stream}
use Rattle.bits.specs.Signed.{code_of}
use Rattle.bits.specs.Read.{DcCode, zero_step, step, read_dc}
use Rattle.bits.proofs.Codes.{At, at_append, value_tail}
use Rattle.bits.proofs.SignedBack.{signed_code, wrap16_same, code_value, code_le}
use Rattle.calls.specs.Streams.{steps_from, step_code, step_codes}
use Rattle.calls.specs.ReadPlane.{DcStep, keep, replace, dc_steps, read_steps, settle, predicted}
use Rattle.calls.proofs.AcBack.{Fit16, suc_not, neg_not}
use Rattle.calls.proofs.Residues.{shift_add, shift_zero}

-- a step as it is read
abbrev pub as_read : ℤ → DcStep
as_read (pos zero) = keep
as_read (pos (suc n)) = replace (code_of (pos (suc n)))
as_read (negsuc n) = replace (code_of (negsuc n))

-- a step's code has at most 56 digits
abbrev pub Steps : List ℤ → Type 0
Steps [] = Unit {0}
Steps (d ∷ ds) = (nat_abs d < 2 ^ 54) × Steps ds

value_step : (d : ℤ) (s : Stream) (p : ℕ) → (d ≡ pos 0 → ⊥) → nat_abs d < 2 ^ 54 → At s p (value_code (code_of d))
    → read_dc s p ≡ step (code_of d) (p + length (value_code (code_of d)))
unfolding read_dc
value_step d s p ne h a =
    let b = value_tail s p (code_of d) (code_value d ne) (omega (arith, code_le d)) a in
    rw (b.0, b.1)

abbrev code_then : DcStep → ℕ → DcCode
code_then keep q = zero_step q
code_then (replace c) q = step c q

step_back : (d : ℤ) (s : Stream) (p : ℕ) → nat_abs d < 2 ^ 54 → At s p (step_code d) → read_dc s p ≡ code_then (as_read d) (p + length (step_code d))
unfolding step_code read_dc
step_back (pos zero) s p h a = rw a.0 (ap zero_step (omega arith))
step_back (pos (suc n)) s p h a = value_step (pos (suc n)) s p (suc_not n) h a
step_back (negsuc n) s p h a = value_step (negsuc n) s p (neg_not n) h a

one_more : (t : DcStep) (q : ℕ) (n : ℕ) (s : Stream) (p : ℕ) (ts : List DcStep) (q' : ℕ) → read_dc s p ≡ code_then t q
    → read_steps n s q ≡ dc_steps ts q' → read_steps (suc n) s p ≡ dc_steps (t ∷ ts) q'
unfolding read_steps
one_more keep q n s p ts q' e f = rw (e, f)
one_more (replace c) q n s p ts q' e f = rw (e, f)

nothing : (s : Stream) (p : ℕ) → read_steps 0 s p ≡ dc_steps [] p
unfolding read_steps
nothing s p = refl

pub steps_back : (ds : List ℤ) (s : Stream) (p : ℕ) → Steps ds → At s p (step_codes ds)
    → read_steps (length ds) s p ≡ dc_steps (map as_read ds) (p + length (step_codes ds))
unfolding step_codes
steps_back [] s p h a = rw add-zero (nothing s p)
steps_back (d ∷ ds) s p h a =
    let u = at_append s p (step_code d) (step_codes ds) a in
    rw (length-append (step_code d) (step_codes ds), ← add_assoc)
    (one_more (as_read d) (p + length (step_code d)) (length ds) s p (map as_read ds) _ (step_back d s p h.0 u.0) (steps_back ds s (p + length (step_code d)) h.1 u.1))

-- what a step puts at place 0, over a zero
settled : (shift : ℕ) (d : ℤ) → settle shift (as_read d) (pos 0) ≡ sll_of (wrap16 d) shift
settled shift (pos zero) = sym (ap (λ (z : ℤ). sll_of z shift) none ∙ shift_zero shift)
  where
    none : wrap16 (pos 0) ≡ pos 0
    none = wrap16_same (pos 0) (omega arith)
settled shift (pos (suc n)) = ap (λ (z : ℤ). sll_of z shift) (signed_code (pos (suc n)))
settled shift (negsuc n) = ap (λ (z : ℤ). sll_of z shift) (signed_code (negsuc n))

-- each coded DC is read as itself, shifted back
pub predicted_back : (shift : ℕ) (q : ℤ) (es : List ℤ) → mag q < 32768 → Fit16 es
    → predicted shift (sll_of q shift) (map as_read (steps_from q es)) (replicate (length es) (pos 0)) ≡ map (λ e. sll_of e shift) es
unfolding predicted steps_from
predicted_back shift q [] hq h = refl
predicted_back shift q (e ∷ es) hq h = rw (step_is) (ap (λ (l : List ℤ). sll_of e shift ∷ l) (predicted_back shift e es h.0 h.1))
  where
    step_is : add_of (settle shift (as_read (e -ℤ q)) (pos 0)) (sll_of q shift) ≡ sll_of e shift
    step_is = ap (λ (z : ℤ). add_of z (sll_of q shift)) (settled shift (e -ℤ q)) ∙ shift_add shift e q h.0 hq

pub length_steps : (q : ℤ) (es : List ℤ) → length (steps_from q es) ≡ length es
unfolding steps_from
length_steps q [] = refl
length_steps q (e ∷ es) = ap suc (length_steps e es)

abs_sub : (a b : ℕ) → nat_abs (sub_ℕ a b) ≤ a + b
abs_sub a b = go (ltb a b) refl
  where
    go : (t : Bool) → ltb a b ≡ t → nat_abs (cond t (negsuc (b - suc a)) (pos (a - b))) ≤ a + b
    go true e = let h : a < b = ltb-true a b e in omega arith
    go false e = let h : b ≤ a = ltb-false a b e in omega arith

-- a difference is at most both together
pub abs_less : (a b : ℤ) → nat_abs (a -ℤ b) ≤ nat_abs a + nat_abs b
abs_less (pos a) (pos zero) = omega arith
abs_less (pos a) (pos (suc b)) = abs_sub a (suc b)
abs_less (pos a) (negsuc b) = omega arith
abs_less (negsuc a) (pos zero) = omega (arith, abs_sub 0 (suc a))
abs_less (negsuc a) (pos (suc b)) = omega arith
abs_less (negsuc a) (negsuc b) = omega (arith, abs_sub (suc b) (suc a))

pub abs_mag : (z : ℤ) → nat_abs z ≤ suc (mag z)
abs_mag (pos n) = omega arith
abs_mag (negsuc n) = omega arith

pub steps_small : (q : ℤ) (es : List ℤ) → mag q < 32768 → Fit16 es → Steps (steps_from q es)
unfolding steps_from
steps_small q [] hq h = tt
steps_small q (e ∷ es) hq h = (omega (arith, abs_less e q, abs_mag e, abs_mag q, h.0), steps_small e es h.0 h.1)
