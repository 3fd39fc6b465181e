-- A lane's result, and its operands, each read back from its bits: as a loop over lanes finds them.
-- The operands' width is w, the result's v. Laws of the modules of scalar that others cite are passed on.
use mathlib.Core.Path.{◌≡◌, refl, ap, ◌∙◌}
use lib.IntN.{ℤ, pos, neg_ℤ, ◌-ℤ◌, +ℤ_idl}
use native.Mathlib.Nat.{mul-le-mul}
use native.Mathlib.Omega.{arith}
use Prim.Native.Nat.{ℕ, ◌*◌, ◌<◌, ◌≤◌}
use mir.Syntax.{Width}
use mir.Val.{SFits, to_z, of_z}
use mir.Facts.{to_z-of_z}
pub use Rattle.scalar.proofs.cuts.Widths.{wide16, back16, shr_fits, wrap16_fits, from_bits}
pub use Rattle.scalar.proofs.cuts.Nearest.{sat_fits}

pub neg_is : (z : ℤ) → pos 0 -ℤ z ≡ neg_ℤ z
neg_is z = +ℤ_idl (neg_ℤ z)

pub bits_prod : (a b : ℕ) → a < 65536 → b < 65536 → a * b ≤ 4294836225
bits_prod a b p q =
    let h : a ≤ 65535 = omega arith in
    let k : b ≤ 65535 = omega arith in
    mul-le-mul h k

-- the bits of a number, read back
abbrev pub back : Width → ℤ → ℤ
back w z = to_z w (of_z w z)

pub lane0 : {v : Width} {z r : ℤ} → SFits v r → r ≡ z → back v r ≡ z
lane0 g e = to_z-of_z g ∙ e

pub lane1 : {v w : Width} (f : ℤ → ℤ) {x r : ℤ} → SFits w x → SFits v r → r ≡ f (back w x) → back v r ≡ f x
lane1 f p g e = to_z-of_z g ∙ e ∙ ap f (to_z-of_z p)

pub lane2 : {v w : Width} (f : ℤ → ℤ → ℤ) {x y r : ℤ} → SFits w x → SFits w y → SFits v r → r ≡ f (back w x) (back w y) → back v r ≡ f x y
lane2 {w} f {x} {y} p q g e = to_z-of_z g ∙ e ∙ ap (λ (a : ℤ). f a (back w y)) (to_z-of_z p) ∙ ap (f x) (to_z-of_z q)

pub lane4 : {v w : Width} (f : ℤ → ℤ → ℤ → ℤ → ℤ) {a b c d r : ℤ} → SFits w a → SFits w b → SFits w c → SFits w d → SFits v r
    → r ≡ f (back w a) (back w b) (back w c) (back w d) → back v r ≡ f a b c d
lane4 {w} f {a} {b} {c} {d} p q s t g e =
    to_z-of_z g ∙ e ∙ ap (λ (z : ℤ). f z (back w b) (back w c) (back w d)) (to_z-of_z p) ∙ ap (λ (z : ℤ). f a z (back w c) (back w d)) (to_z-of_z q)
    ∙ ap (λ (z : ℤ). f a b z (back w d)) (to_z-of_z s) ∙ ap (f a b c) (to_z-of_z t)
