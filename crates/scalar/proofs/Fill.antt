-- Laws of `tab`: its length, its elements, when two are equal, and the loop that fills one place a turn in order.
use mathlib.Core.Path.{◌≡◌, refl, sym, ap, ◌∙◌}
use mathlib.Core.List.{List, [], ◌∷◌, ◌++◌}
use Prim.Native.Nat.{ℕ, zero, suc, ◌+◌, ◌<◌, ◌≤◌}
use native.Mathlib.Numerals.{add-one}
use native.Mathlib.Omega.{arith}
use lib.ListN.{length, get_or, take, set, length-set}
use lib.Seq.{take-suc, take-suc-set, take_all, ext_get_or}
use Rattle.scalar.specs.Tab.{tab_from, tab}

module _ {A : Type 0} where
  pub length_tab_from : (f : ℕ → A) (k n : ℕ) → length (tab_from f k n) ≡ n
  unfolding tab_from
  length_tab_from f k zero = refl
  length_tab_from f k (suc n) = ap suc (length_tab_from f (suc k) n)

  pub get_d_tab_from : (f : ℕ → A) (k n i : ℕ) (d : A) → i < n → get_or (tab_from f k n) i d ≡ f (k + i)
  unfolding tab_from
  get_d_tab_from f k zero i d h = absurd (omega arith)
  get_d_tab_from f k (suc n) zero d h = ap f (omega arith)
  get_d_tab_from f k (suc n) (suc i) d h = get_d_tab_from f (suc k) n i d (omega arith) ∙ ap f (omega arith)

  pub length_tab : (n : ℕ) (f : ℕ → A) → length (tab n f) ≡ n
  length_tab n f = length_tab_from f 0 n

  pub get_d_tab : (n : ℕ) (f : ℕ → A) (k : ℕ) (d : A) → k < n → get_or (tab n f) k d ≡ f k
  get_d_tab n f k d h = get_d_tab_from f 0 n k d h ∙ ap f (omega arith)

  -- equal functions below n give equal lists
  pub tab_ext : (n : ℕ) {f g : ℕ → A} → ((k : ℕ) → k < n → f k ≡ g k) → tab n f ≡ tab n g
  unfolding tab_from
  tab_ext n {f} {g} h = from f g 0 n (λ k p q. h k (omega arith))
    where
      from : (f g : ℕ → A) (k n : ℕ) → ((i : ℕ) → k ≤ i → i < k + n → f i ≡ g i) → tab_from f k n ≡ tab_from g k n
      from f g k zero h = refl
      from f g k (suc n) h = rw (h k (omega arith) (omega arith), from f g (suc k) n (λ i p q. h i (omega arith) (omega arith))) refl

  -- a list of n elements is the tab of its elements
  pub list_tab : (n : ℕ) (l : List A) (d : A) → length l ≡ n → l ≡ tab n (λ k. get_or l k d)
  list_tab n l d e =
      ext_get_or d l (tab n (λ k. get_or l k d)) (e ∙ sym (length_tab n (λ k. get_or l k d)))
      (λ k h. sym (get_d_tab n (λ i. get_or l i d) k d (omega arith)))

  -- two lists of n elements that agree at each place
  pub list_ext : (n : ℕ) (l m : List A) (d : A) → length l ≡ n → length m ≡ n → ((k : ℕ) → k < n → get_or l k d ≡ get_or m k d) → l ≡ m
  list_ext n l m d p q h = ext_get_or d l m (p ∙ sym q) (λ k i. h k (omega arith))

  -- one turn of a loop that fills the places in order
  pub fill_next : (n : ℕ) (f : ℕ → A) (r : List A) (k : ℕ) {z : A} → k < n → length r ≡ n → take k r ≡ take k (tab n f) → z ≡ f k
      → take (k + 1) (set r k z) ≡ take (k + 1) (tab n f)
  fill_next n f r k {z} h s e g =
      rw (add-one k)
      (take-suc-set r k z (omega arith) ∙ ap (λ (l : List A). l ++ (z ∷ [])) e ∙ ap (λ (v : A). take k (tab n f) ++ (v ∷ [])) (g ∙ sym (get_d_tab n f k z h))
      ∙ sym (take-suc (tab n f) k z (omega (arith, length_tab n f))))

  -- the loop is over
  pub fill_done : (n : ℕ) (f : ℕ → A) (r : List A) (k : ℕ) → n ≤ k → length r ≡ n → take k r ≡ take k (tab n f) → r ≡ tab n f
  fill_done n f r k h s e = sym (take_all k r (omega arith)) ∙ e ∙ take_all k (tab n f) (omega (arith, length_tab n f))

  -- the first k of n places are filled: such a loop's invariant
  abbrev pub Filled : (n : ℕ) → (ℕ → A) → List A → ℕ → Type 0
  Filled n f r k = (k ≤ n) × ((length r ≡ n) × (take k r ≡ take k (tab n f)))

  pub filled_next : (n : ℕ) (f : ℕ → A) (r : List A) (k : ℕ) {z : A} → k < n → Filled n f r k → z ≡ f k → Filled n f (set r k z) (k + 1)
  filled_next n f r k {z} h i e = (omega arith, (length-set r k z ∙ i.1.0, fill_next n f r k h i.1.0 i.1.1 e))

  pub filled_done : (n : ℕ) (f : ℕ → A) (r : List A) (k : ℕ) → n ≤ k → Filled n f r k → r ≡ tab n f
  filled_done n f r k h i = fill_done n f r k h i.1.0 i.1.1
