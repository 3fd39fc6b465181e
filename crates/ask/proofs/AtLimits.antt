-- Tables of calls at the limits of their questions. A table names a call by a list of its numbers.
use mathlib.Core.Bool.{Bool, true, ◌&&◌}
use mathlib.Core.List.{List, [], ◌∷◌}
use Prim.Native.Nat.{ℕ, zero, suc}
use lib.Dec.{eqb}

-- the call's number at a place set to a first bad value, and what it is refused with then
pub record Broken : Type 0 where
  pub number : ℕ
  pub place : ℕ
  pub value : ℕ

abbrev pub no : ℕ → ℕ → ℕ → Broken
no number place value = record { number = number; place = place; value = value }

-- last good values of a call that is accepted, and the ways to break it, in the order of the questions
pub record Limits : Type 0 where
  pub good : List ℕ
  pub broken : List Broken

abbrev pub limits : List ℕ → List Broken → Limits
limits good broken = record { good = good; broken = broken }

abbrev set_at : ℕ → ℕ → List ℕ → List ℕ
set_at k v [] = []
set_at zero v (x ∷ xs) = v ∷ xs
set_at (suc k) v (x ∷ xs) = x ∷ set_at k v xs

abbrev break_at : Broken → List ℕ → List ℕ
break_at b c = set_at b.place b.value c

-- broken there and in each later way too, a call is refused with the number of the first
abbrev with_later : (List ℕ → ℕ) → List ℕ → Broken → List Broken → Bool
with_later number c b [] = true
with_later number c b (d ∷ ds) = eqb (number (break_at b (break_at d c))) b.number && with_later number c b ds

-- and broken there alone
abbrev in_order : (List ℕ → ℕ) → List ℕ → List Broken → Bool
in_order number c [] = true
in_order number c (b ∷ bs) = eqb (number (break_at b c)) b.number && (with_later number c b bs && in_order number c bs)

-- a call's number at all limits of a table
abbrev pub holds : (List ℕ → ℕ) → List Limits → Bool
holds number [] = true
holds number (l ∷ ls) = eqb (number l.good) 0 && (in_order number l.good l.broken && holds number ls)
