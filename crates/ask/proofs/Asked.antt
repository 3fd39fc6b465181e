-- Laws of a call that asks its questions first: what a refusal answers, and what is answered where no question is refused.
use mathlib.Core.Path.{◌≡◌, refl}
use mathlib.Core.List.{List}
use Rattle.ask.specs.Ask.{Question, Answer, refused, first_no, asked, by_number}
use Rattle.std.specs.Prelude.{Result}
use Rattle.std.specs.Result.{IsErrAnd}
use Rattle.std.proofs.lemmas.Result.{err_from_is_err_and}
use Rattle.ask.specs.Refusals.{number_of, answer}
use Rattle.ask.specs.declared.refusal.Refusal.{Refusal}
use Rattle.ask.specs.declared.refusal.Refusal.TheVariants as no

-- no refusal has the number 0
pub by_no : {B : Type 0} (e : Refusal) (a : Answer B) → by_number (number_of e) a ≡ refused (number_of e)
by_no no.Preset a = refl
by_no no.Shift a = refl
by_no no.Plane a = refl
by_no no.Stride a = refl
by_no no.Rows a = refl
by_no no.Room a = refl
by_no no.Start a = refl
by_no no.Code a = refl
by_no no.Size a = refl
by_no no.Bytes a = refl
by_no no.Format a = refl
by_no no.Count a = refl
by_no no.Limit a = refl
by_no no.Turn a = refl

pub asked_no : {B : Type 0} (qs : List Question) (a : Answer B) (e : Refusal) → number_of e ≡ first_no qs → refused (number_of e) ≡ asked qs a
unfolding asked
asked_no qs a e h = rw (← h, by_no e a)

pub asked_yes : {B : Type 0} (qs : List Question) (a : Answer B) → 0 ≡ first_no qs → asked qs a ≡ a
unfolding asked
asked_yes qs a h = rw (← h)

-- the exit of a `?`: what the call returns is refused as what it asked was
pub exit : {T B : Type 0} (f : T → B) (r : Result T Refusal) (e : Refusal) {a : Answer B} → IsErrAnd r (λ y. y ≡ e) → refused (number_of e) ≡ a → answer f r ≡ a
exit f r e h g = let p = err_from_is_err_and r h in rw (p.1, p.2) g
