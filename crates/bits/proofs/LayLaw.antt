-- Laws of bytes that are laid into a buffer. Assumes nothing.
use mathlib.Core.Path.{◌≡◌, refl, sym, ap, ap₂, ◌∙◌}
use mathlib.Core.List.{List, [], ◌∷◌, ◌++◌, append_assoc}
use Prim.Native.Nat.{ℕ, suc, ◌+◌, ◌≤◌, ◌<◌}
use native.Mathlib.Nat.{add-zero}
use native.Mathlib.Omega.{arith}
use lib.ListN.{length, take, drop, get_or, set, length-append, length-drop, take-append-drop}
use lib.Seq.{drop-cons, set_at, length-take-le, take_at, drop_at, drop-drop}
use Rattle.bits.specs.Lay.{lay}

pub lay_none : (l : List ℕ) (i : ℕ) → lay l i [] ≡ l
unfolding lay
lay_none l i = ap (λ (x : ℕ). take i l ++ drop x l) (add-zero i) ∙ take-append-drop i l

pub lay_length : (l : List ℕ) (i : ℕ) (xs : List ℕ) → i + length xs ≤ length l → length (lay l i xs) ≡ length l
unfolding lay
lay_length l i xs h =
    omega (arith, length-append (take i l) (xs ++ drop (i + length xs) l), length-append xs (drop (i + length xs) l), length-take-le i l (omega arith), length-drop (i + length xs) l)

module _ (l : List ℕ) (i : ℕ) (xs : List ℕ) (h : i ≤ length l) where
  front : length (take i l ++ xs) ≡ i + length xs
  front = omega (arith, length-append (take i l) xs, length-take-le i l h)

  split : lay l i xs ≡ (take i l ++ xs) ++ drop (i + length xs) l
  unfolding lay
  split = sym (append_assoc (take i l) xs (drop (i + length xs) l))

  -- what stands before the end of what was laid, and after it
  pub lay_take : take (i + length xs) (lay l i xs) ≡ take i l ++ xs
  lay_take = ap (take (i + length xs)) split ∙ take_at (take i l ++ xs) (drop (i + length xs) l) (i + length xs) front

  pub lay_drop : drop (i + length xs) (lay l i xs) ≡ drop (i + length xs) l
  lay_drop = ap (drop (i + length xs)) split ∙ drop_at (take i l ++ xs) (drop (i + length xs) l) (i + length xs) front

  -- bytes laid after bytes
  pub lay_lay : (ys : List ℕ) → lay (lay l i xs) (i + length xs) ys ≡ lay l i (xs ++ ys)
  unfolding lay
  lay_lay ys =
      let e : i + length xs + length ys ≡ i + length (xs ++ ys) = omega (arith, length-append xs ys) in
      let d : drop (i + length xs + length ys) (lay l i xs) ≡ drop (i + length (xs ++ ys)) l =
      sym (drop-drop (length ys) (i + length xs) (lay l i xs)) ∙ ap (drop (length ys)) lay_drop ∙ drop-drop (length ys) (i + length xs) l ∙ ap (λ (n : ℕ). drop n l) e in
      ap₂ (λ (a b : List ℕ). a ++ (ys ++ b)) lay_take d ∙ append_assoc (take i l) xs (ys ++ drop (i + length (xs ++ ys)) l)
      ∙ ap (λ (r : List ℕ). take i l ++ r) (sym (append_assoc xs ys (drop (i + length (xs ++ ys)) l)))

  -- one byte more
  pub lay_set : (b : ℕ) → i + length xs < length l → set (lay l i xs) (i + length xs) b ≡ lay l i (xs ++ (b ∷ []))
  unfolding lay
  lay_set b k =
      let e : suc (i + length xs) ≡ i + length (xs ++ (b ∷ [])) = omega (arith, length-append xs (b ∷ [])) in
      ap (λ (r : List ℕ). set r (i + length xs) b) (split ∙ ap (λ (r : List ℕ). (take i l ++ xs) ++ r) (drop-cons l (i + length xs) 0 k))
      ∙ set_at (take i l ++ xs) (get_or l (i + length xs) 0) (drop (suc (i + length xs)) l) b (i + length xs) front
      ∙ ap (λ (n : ℕ). (take i l ++ xs) ++ (b ∷ drop n l)) e
      ∙ append_assoc (take i l) xs (b ∷ drop (i + length (xs ++ (b ∷ []))) l)
      ∙ ap (λ (r : List ℕ). take i l ++ r) (sym (append_assoc xs (b ∷ []) (drop (i + length (xs ++ (b ∷ []))) l)))

-- a store at the end of what was laid
pub lay_next : (l : List ℕ) (i : ℕ) (xs : List ℕ) (b j : ℕ) {x : List ℕ} → i + length xs < length l → j ≡ i + length xs → x ≡ lay l i xs → set x j b ≡ lay l i (xs ++ (b ∷ []))
lay_next l i xs b j h e f = ap₂ (λ (y : List ℕ) (k : ℕ). set y k b) f e ∙ lay_set l i xs (omega arith) b h

-- eight stores in a row
pub lay_eight : (l : List ℕ) (i a b c d e f g h : ℕ) → i + 8 ≤ length l
    → set (set (set (set (set (set (set (set l i a) (i + 1) b) (i + 2) c) (i + 3) d) (i + 4) e) (i + 5) f) (i + 6) g) (i + 7) h ≡ lay l i (a ∷ b ∷ c ∷ d ∷ e ∷ f ∷ g ∷ h ∷ [])
lay_eight l i a b c d e f g h r =
    lay_next l i (a ∷ b ∷ c ∷ d ∷ e ∷ f ∷ g ∷ []) h (i + 7) (omega arith) refl
    (lay_next l i (a ∷ b ∷ c ∷ d ∷ e ∷ f ∷ []) g (i + 6) (omega arith) refl
    (lay_next l i (a ∷ b ∷ c ∷ d ∷ e ∷ []) f (i + 5) (omega arith) refl
    (lay_next l i (a ∷ b ∷ c ∷ d ∷ []) e (i + 4) (omega arith) refl
    (lay_next l i (a ∷ b ∷ c ∷ []) d (i + 3) (omega arith) refl
    (lay_next l i (a ∷ b ∷ []) c (i + 2) (omega arith) refl
    (lay_next l i (a ∷ []) b (i + 1) (omega arith) refl
    (lay_next l i [] a i (omega arith) (sym (add-zero i)) (sym (lay_none l i)))))))))
