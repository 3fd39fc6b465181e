-- A run of stores, place by place, and the loop that makes it.
use mathlib.Core.Path.{◌≡◌, refl, ◌∙◌}
use mathlib.Core.List.{List, [], ◌∷◌}
use Prim.Native.Nat.{ℕ, zero, suc, ◌+◌, ◌<◌, ◌≤◌}
use native.Mathlib.Omega.{arith}
use lib.ListN.{length, get_or, set, length-set}
use lib.Seq.{sets, get_or-set_same, get_or-set_other}
use Rattle.scalar.specs.Tab.{tab_from, tab}

module _ {A : Type 0} where
  snoc : (f : ℕ → A) (l : List A) (i j n p m : ℕ) → p ≡ i + n → m ≡ j + n → set (sets l i (tab_from f j n)) p (f m) ≡ sets l i (tab_from f j (suc n))
  unfolding tab_from
  snoc f l i j zero p m e g =
      let a : p ≡ i = omega arith in
      let b : m ≡ j = omega arith in
      rw (a, b) refl
  snoc f l i j (suc n) p m e g = snoc f (set l i (f j)) (suc i) (suc j) n p m (omega arith) (omega arith)

  -- one store more
  pub stores_next : (f : ℕ → A) (l : List A) (i k : ℕ) {z : A} {b : List A} → b ≡ sets l i (tab k f) → z ≡ f k → set b (i + k) z ≡ sets l i (tab (k + 1) f)
  stores_next f l i k {z} e g =
      let s : k + 1 ≡ suc k = omega arith in
      rw (e, g, s) (snoc f l i 0 k (i + k) k refl (omega arith))

  -- before the stores, and what they left
  pub stored_before : (vs l : List A) (i j : ℕ) (d : A) → j < i → get_or (sets l i vs) j d ≡ get_or l j d
  stored_before [] l i j d h = refl
  stored_before (a ∷ vs) l i j d h = stored_before vs (set l i a) (suc i) j d (omega arith) ∙ get_or-set_other l i j a d (λ e. omega arith)

  pub stored_at : (vs l : List A) (i k j : ℕ) (d : A) → k < length vs → j ≡ i + k → i + length vs ≤ length l → get_or (sets l i vs) j d ≡ get_or vs k d
  stored_at [] l i k j d h p g = absurd (omega arith)
  stored_at (a ∷ vs) l i zero j d h p g =
      let e : j ≡ i = omega arith in
      rw e (stored_before vs (set l i a) (suc i) i d (omega arith) ∙ get_or-set_same l i a d (omega arith))
  stored_at (a ∷ vs) l i (suc k) j d h p g = stored_at vs (set l i a) (suc i) k j d (omega arith) (omega arith) (omega (arith, length-set l i a))
