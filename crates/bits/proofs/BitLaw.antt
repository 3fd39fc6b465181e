-- A bit of a row of bytes, as code reads it.
use mathlib.Core.Path.{◌≡◌, refl, sym, ap, ◌∙◌}
use mathlib.Core.List.{List, [], ◌∷◌}
use Prim.Native.Nat.{ℕ, zero, suc, ◌^◌, ◌/◌, ◌%◌, ◌-◌, ◌≤◌, ◌<◌}
use native.Mathlib.Nat.{le_of_suc-le-suc, not-suc-le-zero}
use native.Mathlib.Omega.{arith}
use lib.ListN.{length, get_or, get_or-eq_default}
use lib.Bits.{bit_and, and_mask}
use Rattle.bits.specs.Bits.{bit, odd, bit_at}
use Rattle.bits.proofs.Codes.{bit_odd}

other : (l : List ℕ) (i a b : ℕ) → i < length l → get_or l i a ≡ get_or l i b
other [] i a b h = absurd (not-suc-le-zero h)
other (x ∷ l) zero a b h = refl
other (x ∷ l) (suc i) a b h = other l i a b (le_of_suc-le-suc h)

pub bit_in : (l : List ℕ) (p : ℕ) → p / 8 < length l → bit_and (get_or l (p / 8) 0 / 2 ^ (7 - p % 8)) 1 ≡ bit (bit_at l p)
unfolding bit_at
bit_in l p h =
    ap (λ (x : ℕ). bit_and (x / 2 ^ (7 - p % 8)) 1) (other l (p / 8) 0 255 h)
    ∙ and_mask (get_or l (p / 8) 255 / 2 ^ (7 - p % 8)) 1 ∙ sym (bit_odd (get_or l (p / 8) 255 / 2 ^ (7 - p % 8)))

ones : (j : ℕ) → j < 8 → 1 ≡ bit (odd (255 / 2 ^ j))
ones zero h = refl
ones (suc zero) h = refl
ones (suc (suc zero)) h = refl
ones (suc (suc (suc zero))) h = refl
ones (suc (suc (suc (suc zero)))) h = refl
ones (suc (suc (suc (suc (suc zero))))) h = refl
ones (suc (suc (suc (suc (suc (suc zero)))))) h = refl
ones (suc (suc (suc (suc (suc (suc (suc zero))))))) h = refl
ones (suc (suc (suc (suc (suc (suc (suc (suc j)))))))) h = absurd (omega arith)

pub bit_out : (l : List ℕ) (p : ℕ) → length l ≤ p / 8 → 1 ≡ bit (bit_at l p)
unfolding bit_at
bit_out l p h = ones (7 - p % 8) (omega arith) ∙ ap (λ (x : ℕ). bit (odd (x / 2 ^ (7 - p % 8)))) (sym (get_or-eq_default l 255 h))
