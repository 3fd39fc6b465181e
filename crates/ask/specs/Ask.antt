-- Questions and answers. Document 01, 'The questions before any work':
-- "Those that concern a call are put in this order; the first "no" gives the number."
use Rattle.std.specs.Prelude.{Bool, true, false, List, [], ◌∷◌, ℕ, zero, suc}

-- the answer to a question, and the number that a "no" gives
pub record Question : Type 0 where
  pub yes : Bool
  pub number : ℕ

abbrev pub ask : Bool → ℕ → Question
ask b n = record { yes = b; number = n }

abbrev pub or_else : Bool → ℕ → ℕ → ℕ
or_else true n rest = rest
or_else false n rest = n

-- the number of the first "no"; 0 where every answer is yes
unfoldable pub first_no : List Question → ℕ
first_no [] = 0
first_no (q ∷ qs) = or_else q.yes q.number (first_no qs)

-- a call refuses with a number, or does what it says
pub data Answer (A : Type 0) : Type 0 where
  refused : ℕ → Answer A
  accepted : A → Answer A

-- 0 is no refusal
abbrev pub by_number : {A : Type 0} → ℕ → Answer A → Answer A
by_number zero a = a
by_number (suc n) a = refused (suc n)

-- the questions in their order, then the work
unfoldable pub asked : {A : Type 0} → List Question → Answer A → Answer A
asked qs a = by_number (first_no qs) a

-- one step after the other, up to the first refusal
abbrev pub and_then : {A B : Type 0} → Answer A → (A → Answer B) → Answer B
and_then (refused n) k = refused n
and_then (accepted a) k = k a

-- document 01's number of an answer: 0 is accepted
abbrev pub number_in : {A : Type 0} → Answer A → ℕ
number_in (refused n) = n
number_in (accepted a) = 0
