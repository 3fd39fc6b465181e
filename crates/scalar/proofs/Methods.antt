-- What std's methods on signed numbers make is what the definitions say.
use Rattle.std.proofs.Common.{◌≡◌, ℕ, ◌+◌, ◌-◌, ◌*◌, ◌%◌, ◌/◌, sym, ap, ◌∙◌, arith, to_z, of_z, min}
use mathlib.Core.Path.{refl}
use mathlib.Core.Bool.{true, false}
use lib.IntN.{ℤ, pos, negsuc, neg_ℤ, ◌+ℤ◌, ◌-ℤ◌, ◌*ℤ◌}
use lib.Signed.{lt_z}
use mir.Val.{SFits}
use Rattle.std.specs.Int.{w16, w32, w64, int_wrap, int_min, int_max, int_wrapping_neg}
use Rattle.std.specs.Int.RustNames.{unsigned_abs}
use Rattle.std.proofs.lemmas.Int.{to_z_pos, to_z-of_z, ints, clamps, wrapping_add_is, wrapping_sub_is, wrapping_mul_is, wrapping_neg_is}
use Rattle.scalar.specs.cuts.Cuts.{wrap16, wrap32, sat16, packus_of}
use Rattle.scalar.specs.sums.Sums.{add_of}
use Rattle.scalar.specs.products.Products.{mullo_of}
use Rattle.scalar.specs.signs.Signs.{abs_of, sign_of, min_of, max_of}
use Rattle.scalar.specs.wide.Wide.{add32_of, sub32_of, madd_of}

pub wrap16_is : (z : ℤ) → int_wrap w16 z ≡ wrap16 z
unfolding wrap16 int_wrap
wrap16_is (pos n) = refl
wrap16_is (negsuc n) = ap (to_z w16) (omega arith)

pub wrap32_is : (z : ℤ) → int_wrap w32 z ≡ wrap32 z
unfolding wrap32 int_wrap
wrap32_is (pos n) = refl
wrap32_is (negsuc n) = ap (to_z w32) (omega arith)

pub low_is : (z : ℤ) → SFits w32 z → to_z w16 (of_z w32 z % 65536) ≡ wrap16 z
unfolding wrap16
low_is (pos n) h = refl
low_is (negsuc n) h = ap (to_z w16) (omega arith)

pub low32_is : (z : ℤ) → SFits w64 z → to_z w32 (of_z w64 z % 4294967296) ≡ wrap32 z
unfolding wrap32
low32_is (pos n) h = refl
low32_is (negsuc n) h = ap (to_z w32) (omega arith)

module _ (a b : ℤ) (p : SFits w16 a) (q : SFits w16 b) where
  pub add_is : to_z w16 ((of_z w16 a + of_z w16 b) % 65536) ≡ add_of a b
  unfolding add_of
  add_is = wrapping_add_is w16 a b p q ∙ wrap16_is (a +ℤ b)

  pub mullo_is : to_z w16 (of_z w16 a * of_z w16 b % 65536) ≡ mullo_of a b
  unfolding mullo_of
  mullo_is = wrapping_mul_is w16 a b p q ∙ wrap16_is (a *ℤ b)

module _ (a b : ℤ) (p : SFits w32 a) (q : SFits w32 b) where
  pub add32_is : to_z w32 ((of_z w32 a + of_z w32 b) % 4294967296) ≡ add32_of a b
  unfolding add32_of
  add32_is = wrapping_add_is w32 a b p q ∙ wrap32_is (a +ℤ b)

  pub sub32_is : to_z w32 ((of_z w32 a + (4294967296 - of_z w32 b)) % 4294967296) ≡ sub32_of a b
  unfolding sub32_of
  sub32_is = wrapping_sub_is w32 a b p q ∙ wrap32_is (a -ℤ b)

-- the products as a call's contract says them: of its operands, read back from their bits
module _ (a b c d : ℤ) (fa : SFits w16 a) (fb : SFits w16 b) (fc : SFits w16 c) (fd : SFits w16 d) where
  pub madd_is : (p q : ℤ) → SFits w32 p → SFits w32 q
      → p ≡ to_z w16 (of_z w16 a) *ℤ to_z w16 (of_z w16 b) → q ≡ to_z w16 (of_z w16 c) *ℤ to_z w16 (of_z w16 d)
      → to_z w32 ((of_z w32 p + of_z w32 q) % 4294967296) ≡ madd_of a b c d
  unfolding madd_of
  madd_is p q f g e h =
      wrapping_add_is w32 p q f g ∙ wrap32_is (p +ℤ q)
      ∙ rw (e, h, to_z-of_z w16 a fa, to_z-of_z w16 b fb, to_z-of_z w16 c fc, to_z-of_z w16 d fd) refl

pub abs_is : (x : ℤ) → SFits w16 x → to_z w16 (unsigned_abs x) ≡ abs_of x
unfolding abs_of wrap16
abs_is (pos n) h = to_z_pos w16 n h.sfits
abs_is (negsuc n) h = ap (to_z w16) (omega arith)

pub sign_neg : (x s : ℤ) → SFits w16 x → lt_z s (pos 0) ≡ true → int_wrapping_neg w16 x ≡ sign_of x s
unfolding sign_of
sign_neg x (pos n) p e = grind arith
sign_neg x (negsuc n) p e = wrapping_neg_is w16 x p ∙ wrap16_is (neg_ℤ x)

pub sign_zero : (x s : ℤ) → SFits w16 s → of_z w16 s ≡ 0 → pos 0 ≡ sign_of x s
unfolding sign_of
sign_zero x (pos n) h e = rw e refl
sign_zero x (negsuc n) h e = absurd (omega arith)

pub sign_pos : (x s : ℤ) → lt_z s (pos 0) ≡ false → (s ≡ pos 0 → ⊥) → x ≡ sign_of x s
unfolding sign_of
sign_pos x (pos n) e f = grind arith
sign_pos x (negsuc n) e f = grind arith

pub min_is : (a b : ℤ) → int_min a b ≡ min_of a b
unfolding min_of
min_is a b = grind (arith, ints)

pub max_is : (a b : ℤ) → int_max a b ≡ max_of a b
unfolding max_of
max_is a b = grind (arith, ints)

pub sat_is : (s : ℤ) → int_max (negsuc 32767) (int_min s (pos 32767)) ≡ sat16 s
unfolding sat16
sat_is (pos n) = grind arith
sat_is (negsuc n) = grind arith

pub packus_is : (x : ℤ) → int_max (pos 0) (int_min x (pos 255)) ≡ pos (packus_of x)
unfolding packus_of
packus_is (pos n) = grind arith
packus_is (negsuc n) = grind arith
