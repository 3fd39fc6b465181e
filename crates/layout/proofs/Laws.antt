-- Laws of the geometry, over the definitions.
use mathlib.Core.Path.{◌≡◌, refl}
use mathlib.Core.Bool.{Bool, true, false, ◌&&◌}
use mathlib.Core.List.{[], ◌∷◌}
use Prim.Native.Nat.{ℕ, ◌%◌, ◌≤◌}
use native.Mathlib.Omega.{arith}
use lib.Dec.{leb, eqb}
use borrow.Author.Tests.{leb-true}
use Rattle.ask.specs.Ask.{refused, accepted, first_no}
use Rattle.ask.specs.Refusals.{number_of}
use Rattle.ask.specs.declared.refusal.Refusal.{Refusal}
use Rattle.ask.proofs.Asked.{asked_no, asked_yes}
use Rattle.ask.specs.Limits.{side_min, width_max, height_max}
use Rattle.layout.specs.Geometry.{width_ok, height_ok, size_ok, size_question, of_size}

-- ---- the size
and_left : (a b : Bool) → a && b ≡ true → a ≡ true
and_left true b e = refl
and_left false b e = e

and_right : (a b : Bool) → a && b ≡ true → b ≡ true
and_right true b e = e
and_right false b e = absurd (false_true e)
  where
    false_true : false ≡ true → ⊥
    false_true e = cc

pub record Sized (w h : ℕ) : Type 0 where
  pub wide : w ≤ width_max
  pub high : h ≤ height_max

pub sized : (w h : ℕ) → size_ok w h ≡ true → Sized w h
sized w h e =
    let sides = leb side_min w && leb w width_max in
    let a = and_right (eqb (w % 2) 0) sides (and_left (width_ok w) (height_ok h) e) in
    record {
      wide = leb-true w width_max (and_right (leb side_min w) (leb w width_max) a);
      high = leb-true h height_max (and_right (leb side_min h) (leb h height_max) (and_right (width_ok w) (height_ok h) e));
    }

-- what question 9 leaves, put alone
pub sized_alone : (w h : ℕ) → 0 ≡ first_no (size_question w h ∷ []) → Sized w h
unfolding first_no
sized_alone w h e = go (size_ok w h) refl
  where
    go : (b : Bool) → size_ok w h ≡ b → Sized w h
    go true x = sized w h x
    go false x = absurd (let z = rw x at e in omega arith)

-- what belongs to a size, where question 9 is answered
module _ {A : Type 0} (w h : ℕ) (a : A) where
  pub fits : 0 ≡ first_no (size_question w h ∷ []) → of_size w h a ≡ accepted a
  unfolding of_size
  fits e = asked_yes _ (accepted a) e

  pub no_size_lem : (e : Refusal) → number_of e ≡ first_no (size_question w h ∷ []) → refused (number_of e) ≡ of_size w h a
  unfolding of_size
  no_size_lem e k = asked_no _ (accepted a) e k
