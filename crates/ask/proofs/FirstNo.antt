-- Laws of the first "no".
use mathlib.Core.Path.{◌≡◌, refl, ap, ◌∙◌}
use mathlib.Core.Bool.{Bool, true, false, ◌&&◌}
use mathlib.Core.List.{List, [], ◌∷◌}
use Prim.Native.Nat.{ℕ, suc}
use native.Mathlib.Omega.{arith}
use Rattle.ask.specs.Ask.{Question, ask, or_else, first_no}

pub yes : {b : Bool} (n : ℕ) (rest : List Question) → b ≡ true → first_no (ask b n ∷ rest) ≡ first_no rest
unfolding first_no
yes n rest e = rw e

pub no : {b : Bool} (n : ℕ) (rest : List Question) → b ≡ false → first_no (ask b n ∷ rest) ≡ n
unfolding first_no
no n rest e = rw e

pub none : first_no [] ≡ 0
unfolding first_no
none = refl

-- a question before others
pub put : {r n : ℕ} (b : Bool) (m : ℕ) (qs : List Question) → r ≡ or_else b m n → n ≡ first_no qs → r ≡ first_no (ask b m ∷ qs)
unfolding first_no
put b m qs e f = e ∙ ap (or_else b m) f

-- a question with a "no" that was not met
pub passed : (b : Bool) (n : ℕ) (qs : List Question) → first_no (ask b (suc n) ∷ qs) ≡ 0 → (b ≡ true) × (first_no qs ≡ 0)
unfolding first_no
passed true n qs e = (refl, e)
passed false n qs e = absurd (omega arith)

-- ---- two answers
pub left_yes : (b c : Bool) → b && c ≡ true → b ≡ true
left_yes true c e = refl
left_yes false c e = e

pub right_yes : (b c : Bool) → b && c ≡ true → c ≡ true
right_yes true c e = e
right_yes false c e = absurd (cc)

-- ---- a number that no question has is not given
abbrev pub NotThere : ℕ → List Question → Type 0
NotThere n [] = (0 ≡ n) → ⊥
NotThere n (q ∷ qs) = (q.number ≡ n → ⊥) × NotThere n qs

by_answer : (n m rest : ℕ) (b : Bool) → (m ≡ n → ⊥) → (rest ≡ n → ⊥) → or_else b m rest ≡ n → ⊥
by_answer n m rest true h k e = k e
by_answer n m rest false h k e = h e

pub not_given : (n : ℕ) (qs : List Question) → NotThere n qs → first_no qs ≡ n → ⊥
unfolding first_no
not_given n [] h e = h e
not_given n (q ∷ qs) h e = by_answer n q.number (first_no qs) q.yes h.0 (not_given n qs h.1) e
