-- Two numbers stored one after the other are laid.
use Rattle.std.proofs.Common.{◌≡◌, ℕ, ◌+◌, ◌≤◌, List, [], ◌∷◌, length, set, refl, sym, arith}
use native.Mathlib.Nat.{add-zero}
use Rattle.bits.specs.Lay.{lay}
use Rattle.bits.proofs.LayLaw.{lay_none, lay_next}

pub two_laid : (l : List ℕ) (i a b : ℕ) → i + 2 ≤ length l → set (set l i a) (i + 1) b ≡ lay l i (a ∷ b ∷ [])
two_laid l i a b h = lay_next l i (a ∷ []) b (i + 1) (omega arith) refl (lay_next l i [] a i (omega arith) (sym (add-zero i)) (sym (lay_none l i)))
