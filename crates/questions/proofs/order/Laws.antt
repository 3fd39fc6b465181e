-- Questions before others: a "no" among them is the first; where they are all answered yes, the others decide.
use mathlib.Core.Path.{◌≡◌, refl}
use mathlib.Core.Bool.{Bool, true, false}
use mathlib.Core.List.{List, [], ◌∷◌, ◌++◌}
use Prim.Native.Nat.{ℕ, ◌<◌}
use native.Mathlib.Omega.{arith}
use Rattle.ask.specs.Ask.{Question, or_else, first_no}
use Rattle.ask.specs.Refusals.{number_of}
use Rattle.ask.specs.Limits.{preset_ok, shift_ok}
use Rattle.ask.specs.declared.refusal.Refusal.{Refusal}
use Rattle.calls.proofs.Told.{some}
use Rattle.calls.specs.Questions.{first_five}

by_yes : (b : Bool) (n m k l : ℕ) → n ≡ or_else b m k → (n ≡ k → n ≡ l) → n ≡ or_else b m l
by_yes true n m k l h f = f h
by_yes false n m k l h f = h

before : (n : ℕ) (qs rest : List Question) → n ≡ first_no qs → 0 < n → n ≡ first_no (qs ++ rest)
unfolding first_no
before n [] rest h p = absurd (omega arith)
before n (q ∷ qs) rest h p = by_yes q.yes n q.number (first_no qs) (first_no (qs ++ rest)) h (λ e. before n qs rest e p)

pub early : (e : Refusal) (qs rest : List Question) → number_of e ≡ first_no qs → number_of e ≡ first_no (qs ++ rest)
early e qs rest h = before (number_of e) qs rest h (some e)

yes : (p s w t r : Bool) (rest : List Question) → 0 ≡ or_else p 1 (or_else s 2 (or_else w 3 (or_else t 4 (or_else r 5 0))))
    → or_else p 1 (or_else s 2 (or_else w 3 (or_else t 4 (or_else r 5 (first_no rest))))) ≡ first_no rest
yes false s w t r rest e = absurd (omega arith)
yes true false w t r rest e = absurd (omega arith)
yes true true false t r rest e = absurd (omega arith)
yes true true true false r rest e = absurd (omega arith)
yes true true true true false rest e = absurd (omega arith)
yes true true true true true rest e = refl

pub late : (preset shift : ℕ) (which strides rows : Bool) (rest : List Question) → 0 ≡ first_no (first_five preset shift which strides rows)
    → first_no (first_five preset shift which strides rows ++ rest) ≡ first_no rest
unfolding first_no
late preset shift which strides rows rest e = yes (preset_ok preset) (shift_ok shift) which strides rows rest e
