-- Lists whose elements are made anew by place: the laws that every writer of samples cites. Assumes nothing.
use mathlib.Core.Path.{◌≡◌, refl, sym, ◌∙◌, ap, subst, subst⁻¹}
use mathlib.Core.Bool.{Bool, true, false}
use lib.Dec.{eqb, ltb}
use borrow.Author.Tests.{eqb-true, eqb-false, ltb-true, ltb-false}
use mathlib.Core.List.{List, [], ◌∷◌, ◌++◌, append-nil, map}
use Prim.Native.Nat.{ℕ, zero, suc, ◌+◌, ◌-◌, ◌<◌, ◌≤◌}
use native.Mathlib.Nat.{add-suc, suc-add, add-zero, zero-add, not-suc-le-zero, le_of_suc-le-suc}
use native.Mathlib.Omega.{arith}
use lib.ListN.{length, get_or, set, take, drop, length-set, length-append, length-take, length-drop, get_or-append, drop_of_length-le}
use lib.Seq.{ext_get_or, get_or-set_same, get_or-set_other, get_or-take, get_or-drop, get_or-append-add}
use Rattle.paint.specs.Paint.{over}

by_eq_at : {A : Type 0} (a b : ℕ) → (a ≡ b → A) → ((a ≡ b → ⊥) → A) → (t : Bool) → eqb a b ≡ t → A
by_eq_at a b l r true e = l (eqb-true a b e)
by_eq_at a b l r false e = r (eqb-false a b e)

-- by cases on two numbers
pub by_eq : {A : Type 0} (a b : ℕ) → (a ≡ b → A) → ((a ≡ b → ⊥) → A) → A
by_eq a b l r = by_eq_at a b l r (eqb a b) refl

by_lt_at : {A : Type 0} (a b : ℕ) → (a < b → A) → (b ≤ a → A) → (t : Bool) → ltb a b ≡ t → A
by_lt_at a b l r true e = l (ltb-true a b e)
by_lt_at a b l r false e = r (ltb-false a b e)

pub by_lt : {A : Type 0} (a b : ℕ) → (a < b → A) → (b ≤ a → A) → A
by_lt a b l r = by_lt_at a b l r (ltb a b) refl

module _ {A : Type 0} where
  pub length_over : (f : ℕ → A → A) (n : ℕ) (l : List A) → length (over f n l) ≡ length l
  unfolding over
  length_over f n [] = refl
  length_over f n (x ∷ xs) = ap suc (length_over f (suc n) xs)

  -- equal functions make equal lists
  pub over_ext : (f g : ℕ → A → A) (n : ℕ) (l : List A) → ((i : ℕ) (x : A) → f i x ≡ g i x) → over f n l ≡ over g n l
  unfolding over
  over_ext f g n [] e = refl
  over_ext f g n (x ∷ xs) e = rw (e n x, over_ext f g (suc n) xs e) refl

-- what a function of its elements makes of such a list
pub map_over : {A B : Type 0} (h : A → B) (f : ℕ → A → A) (g : ℕ → B → B) (n : ℕ) (l : List A) → ((i : ℕ) (x : A) → h (f i x) ≡ g i (h x)) → map h (over f n l) ≡ over g n (map h l)
unfolding over
map_over h f g n [] e = refl
map_over h f g n (x ∷ xs) e = rw (e n x, map_over h f g (suc n) xs e) refl

-- by places: d stands where a list has none
module _ {A : Type 0} (d : A) where
  at_from : (f : ℕ → A → A) (n : ℕ) (l : List A) (i : ℕ) → i < length l → get_or (over f n l) i d ≡ f (n + i) (get_or l i d)
  unfolding over
  at_from f n [] i h = absurd (not-suc-le-zero h)
  at_from f n (x ∷ xs) zero h = rw add-zero
  at_from f n (x ∷ xs) (suc i) h = rw (at_from f (suc n) xs i (le_of_suc-le-suc h), add-suc, suc-add)

  pub at_over : (f : ℕ → A → A) (l : List A) (i : ℕ) → i < length l → get_or (over f 0 l) i d ≡ f i (get_or l i d)
  at_over f l i h = at_from f 0 l i h ∙ rw zero-add

  -- equal at each place, so equal
  pub by_places : (f : ℕ → A → A) (l m : List A) → length m ≡ length l → ((i : ℕ) → i < length l → get_or m i d ≡ f i (get_or l i d)) → m ≡ over f 0 l
  by_places f l m e h =
      ext_get_or d m (over f 0 l) (e ∙ sym (length_over f 0 l)) (λ i b. h i (rw e at b) ∙ sym (at_over f l i (rw e at b)))

  pub by_no_place : (f : ℕ → A → A) (l : List A) → ((i : ℕ) → i < length l → get_or l i d ≡ f i (get_or l i d)) → l ≡ over f 0 l
  by_no_place f l h = by_places f l l refl h

  -- one store
  pub over_set : (f g : ℕ → A → A) (l : List A) (p : ℕ) (v : A) → p < length l → v ≡ g p (get_or l p d)
      → ((n : ℕ) → n < length l → (n ≡ p → ⊥) → f n (get_or l n d) ≡ g n (get_or l n d)) → set (over f 0 l) p v ≡ over g 0 l
  over_set f g l p v hp hv h =
      by_places g l (set (over f 0 l) p v) (length-set (over f 0 l) p v ∙ length_over f 0 l)
      (λ n b.
      by_eq n p
      (λ e. rw e (get_or-set_same (over f 0 l) p v d (rw (length_over f 0 l) hp) ∙ hv))
      (λ ne. get_or-set_other (over f 0 l) p n v d ne ∙ at_over f l n b ∙ h n b ne))

-- the same on numbers
pub get_d_over : (f : ℕ → ℕ → ℕ) (l : List ℕ) (i : ℕ) → i < length l → get_or (over f 0 l) i 0 ≡ f i (get_or l i 0)
get_d_over = at_over 0

pub over_by : (f : ℕ → ℕ → ℕ) (l m : List ℕ) → length m ≡ length l → ((i : ℕ) → i < length l → get_or m i 0 ≡ f i (get_or l i 0)) → m ≡ over f 0 l
over_by = by_places 0

pub over_none : (f : ℕ → ℕ → ℕ) (l : List ℕ) → ((i : ℕ) → i < length l → get_or l i 0 ≡ f i (get_or l i 0)) → l ≡ over f 0 l
over_none = by_no_place 0

-- a part of l from a on, made anew, seen from an older list m as long as l
pub over_part : (f g : ℕ → ℕ → ℕ) (l m : List ℕ) (a : ℕ) → a ≤ length l → length l ≡ length m
    → ((n : ℕ) → n < a → get_or l n 0 ≡ g n (get_or m n 0))
    → ((n : ℕ) → a + n < length m → f n (get_or l (a + n) 0) ≡ g (a + n) (get_or m (a + n) 0))
    → take a l ++ over f 0 (drop a l) ≡ over g 0 m
over_part f g l m a ha same lo hi =
    let la : length (take a l) ≡ a = simp length-take (omega arith) in
    over_by g m (take a l ++ over f 0 (drop a l)) (simp (length-append, length_over, length-drop) (omega arith))
    (λ n b.
    by_lt n a
    (λ h. get_or-append (take a l) (over f 0 (drop a l)) 0 n (omega arith) ∙ get_or-take a l n 0 h ∙ lo n h)
    (λ h.
    let e : n ≡ a + (n - a) = omega arith in
    let b2 : a + (n - a) < length m = omega arith in
    let p : get_or (take a l ++ over f 0 (drop a l)) (length (take a l) + (n - a)) 0 ≡ get_or (over f 0 (drop a l)) (n - a) 0 =
    get_or-append-add (take a l) (over f 0 (drop a l)) (n - a) 0 in
    let q : get_or (take a l ++ over f 0 (drop a l)) (a + (n - a)) 0 ≡ get_or (over f 0 (drop a l)) (n - a) 0 =
    subst (λ (z : ℕ). get_or (take a l ++ over f 0 (drop a l)) (z + (n - a)) 0 ≡ get_or (over f 0 (drop a l)) (n - a) 0) la p in
    subst⁻¹ (λ (z : ℕ). get_or (take a l ++ over f 0 (drop a l)) z 0 ≡ g z (get_or m z 0)) e
    (q ∙ get_d_over f (drop a l) (n - a) (simp length-drop (omega arith)) ∙ rw get_or-drop (hi (n - a) b2))))

take_whole : (l : List ℕ) (n : ℕ) → length l ≤ n → take n l ≡ l
take_whole l n h = ext_get_or 0 (take n l) l (simp length-take (omega arith))
    (λ i b. get_or-take n l i 0 (let z : length (take n l) ≡ length l = simp length-take (omega arith) in omega arith))

-- what a loan of the part from a to the end hands back
pub handed_back : (f : ℕ → ℕ → ℕ) (l y : List ℕ) (a : ℕ) → y ≡ over f 0 (take (length l - a) (drop a l))
    → take a l ++ (y ++ drop (length l - a) (drop a l)) ≡ take a l ++ over f 0 (drop a l)
handed_back f l y a e =
    let t : take (length l - a) (drop a l) ≡ drop a l = take_whole (drop a l) (length l - a) (simp length-drop (omega arith)) in
    let d : drop (length l - a) (drop a l) ≡ [] = drop_of_length-le (drop a l) {i = length l - a} (simp length-drop (omega arith)) in
    rw (d, append-nil, e, t)
