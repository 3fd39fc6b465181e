-- Laws of a DC step's code and of the half step.
use mathlib.Core.Path.{◌≡◌, refl, sym, ap, ◌∙◌, subst}
use mathlib.Core.Bool.{Bool}
use mathlib.Core.List.{List}
use Prim.Native.Nat.{ℕ, zero, suc, ◌-◌, ◌*◌, ◌%◌, ◌^◌, ◌≤◌, ◌<◌}
use native.Mathlib.Omega.{arith}
use lib.IntN.{ℤ, pos, negsuc, nat_abs}
use lib.ListN.{length}
use lib.Pow.{pow_mono}
use mir.Syntax.{w16}
use mir.Val.{SFits, to_z}
use mir.Facts.{to_z_pos}
use Rattle.scalar.specs.Scalar.{sll_of}
use Rattle.bits.specs.Bits.{bits_of, value_code}
use Rattle.bits.specs.Signed.{code_of}
use Rattle.bits.proofs.SignedBack.{code_le, code_value}
use Rattle.calls.specs.Streams.{half_step, step_code}
use Rattle.bitwriter.specs.Put.{Room, Put}
use Rattle.bitwriter.specs.declared.BitAcc.{BitAcc}

-- 1 shifted left
pub half_is : (s : ℕ) → s ≤ 15 → (s ≡ 0 → ⊥) → sll_of (pos 1) (s - 1) ≡ pos (half_step s)
unfolding sll_of
half_is zero h n = absurd (n refl)
half_is (suc g) h n =
    let p : 2 ^ g ≤ 16384 = pow_mono {i = g} {j = 14} (omega arith) in
    let e : suc g - 1 ≡ g = omega arith in
    let f : 1 * 2 ^ g % 65536 ≡ 2 ^ g = omega arith in
    ap (λ (k : ℕ). to_z w16 (1 * 2 ^ k % 65536)) e ∙ ap (to_z w16) f ∙ to_z_pos w16 (omega arith)

-- the code of a number of 16 bits
pub code_16 : (x : ℤ) → SFits w16 x → code_of x < 4294967296
unfolding code_of
code_16 (pos zero) h = omega arith
code_16 (pos (suc n)) h = omega (arith, h.sfits)
code_16 (negsuc n) h = omega (arith, h.sfits)

-- the code of a step
pub code_step : (x : ℤ) → nat_abs x ≤ 4096 → code_of x < 4294967296
code_step x h = omega (arith, code_le x)

pub code_small : (x : ℤ) → nat_abs x ≤ 2048 → code_of x < 32768
code_small x h = omega (arith, code_le x)

pub small_fits : (x : ℤ) → nat_abs x ≤ 2048 → SFits w16 x
small_fits (pos n) h = record { sfits = omega arith }
small_fits (negsuc n) h = record { sfits = omega arith }

pub code_some : (x : ℤ) → (x ≡ pos 0 → ⊥) → 0 < code_of x
code_some x h = omega (arith, code_value x h)

-- a step of 0, and any other
pub zero_step_lem : (x : ℤ) → x ≡ pos 0 → step_code x ≡ bits_of 2 3
unfolding step_code bits_of
zero_step_lem x e = rw e refl

pub value_step : (x : ℤ) (n : ℕ) → (x ≡ pos 0 → ⊥) → n ≡ code_of x → step_code x ≡ value_code n
unfolding step_code
value_step (pos zero) n h e = absurd (h refl)
value_step (pos (suc m)) n h e = ap value_code (sym e)
value_step (negsuc m) n h e = ap value_code (sym e)

pub room_by : {a : BitAcc} {o : List ℕ} {x y : List Bool} → x ≡ y → Room a (length x) o → Room a (length y) o
room_by {a} {o} e r = subst (λ (l : List Bool). Room a (length l) o) e r

pub put_by : (a : BitAcc) {o : List ℕ} {x y : List Bool} {b : BitAcc} {p : List ℕ} → x ≡ y → Put a o y b p → Put a o x b p
put_by a {o} {x} {y} {b} {p} e v = subst (λ (l : List Bool). Put a o l b p) (sym e) v
