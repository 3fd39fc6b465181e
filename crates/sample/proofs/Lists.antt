-- Lists of samples as the definitions see them: what holds of them as of any list. `lists` is the law of the trait.
use Rattle.std.proofs.Common.{◌≡◌, ℕ, ◌<◌, List, ◌++◌, length, get_or, take, drop, set, map, sym, ap, ap₂, ◌∙◌}
use Rattle.std.proofs.lemmas.List.{length-map, map-set, map-append, get_or-map, take-map, drop-map}

module _ {A : Type 0} {number : A → ℕ} {samples : List A → List ℕ} (lists : (xs : List A) → samples xs ≡ map number xs) where
  pub samples_length : (xs : List A) → length (samples xs) ≡ length xs
  samples_length xs = ap length (lists xs) ∙ length-map xs number

  pub samples_at : (xs : List A) (i : ℕ) (other : A) → i < length xs → get_or (samples xs) i 0 ≡ number (get_or xs i other)
  samples_at xs i other h = ap (λ (l : List ℕ). get_or l i 0) (lists xs) ∙ get_or-map number xs i other 0 h

  pub samples_set : (xs : List A) (i : ℕ) (x : A) → samples (set xs i x) ≡ set (samples xs) i (number x)
  samples_set xs i x = lists (set xs i x) ∙ map-set number xs i x ∙ ap (λ (l : List ℕ). set l i (number x)) (sym (lists xs))

  pub samples_take : (n : ℕ) (xs : List A) → samples (take n xs) ≡ take n (samples xs)
  samples_take n xs = lists (take n xs) ∙ sym (take-map number n xs) ∙ ap (take n) (sym (lists xs))

  pub samples_drop : (n : ℕ) (xs : List A) → samples (drop n xs) ≡ drop n (samples xs)
  samples_drop n xs = lists (drop n xs) ∙ sym (drop-map number n xs) ∙ ap (drop n) (sym (lists xs))

  pub samples_append : (xs ys : List A) → samples (xs ++ ys) ≡ samples xs ++ samples ys
  samples_append xs ys = lists (xs ++ ys) ∙ map-append number xs ys ∙ ap₂ (λ (l m : List ℕ). l ++ m) (sym (lists xs)) (sym (lists ys))
