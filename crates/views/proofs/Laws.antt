-- Laws of the table's question.
use mathlib.Core.Path.{◌≡◌, refl, sym, ap, ap₂}
use mathlib.Core.Bool.{Bool, true, false}
use mathlib.Core.List.{List, ◌∷◌}
use Prim.Native.Nat.{ℕ, ◌*◌, ◌≤◌}
use native.Mathlib.Omega.{arith}
use lib.Dec.{leb}
use lib.ListN.{length}
use borrow.Author.Tests.{leb-true}
use Rattle.ask.specs.Ask.{Answer, refused, first_no, asked}
use Rattle.ask.specs.Refusals.{number_of}
use Rattle.ask.specs.declared.refusal.Refusal.{Refusal}
use Rattle.layout.specs.Geometry.{size_ok, size_question, slice_count}
use Rattle.parser.specs.head.Header.{header_questions, FrameRead}
use Rattle.parser.specs.Frame.{parse_of}
use Rattle.parser.proofs.Laws.{frame_no}
use Rattle.views.specs.Table.{table_question, tabled_of, views_as, all_views_of}
use Rattle.views.specs.both.Views.{Tabled}

-- question 9, the table's question, then those about the header: what they leave
pub record Yes (w h : ℕ) (f : List ℕ) (room : ℕ) : Type 0 where
  pub header : first_no (header_questions w h f) ≡ 0
  pub enough : 4 * slice_count h ≤ room
  pub is : tabled_of w h f room ≡ parse_of w h f

module _ (w h : ℕ) (f : List ℕ) (room : ℕ) where
  pub views_no : (r : Refusal) → number_of r ≡ first_no (size_question w h ∷ table_question h room ∷ header_questions w h f) → tabled_of w h f room ≡ refused (number_of r)
  unfolding tabled_of asked first_no
  views_no r e = by_size (size_ok w h) refl
    where
      by_table : size_ok w h ≡ true → (b : Bool) → leb (4 * slice_count h) room ≡ b → tabled_of w h f room ≡ refused (number_of r)
      by_table s false x = let d = rw s at e in rw (s, x) (ap refused (sym (rw x at d)))
      by_table s true x = let d = rw s at e in rw (s, x) (sym (frame_no w h f r (rw x at d)))

      by_size : (b : Bool) → size_ok w h ≡ b → tabled_of w h f room ≡ refused (number_of r)
      by_size false s = rw s (ap refused (sym (rw s at e)))
      by_size true s = by_table s (leb (4 * slice_count h) room) refl

  pub views_yes : 0 ≡ first_no (size_question w h ∷ table_question h room ∷ header_questions w h f) → Yes w h f room
  unfolding tabled_of asked first_no
  views_yes e = by_size (size_ok w h) refl
    where
      by_table : size_ok w h ≡ true → (b : Bool) → leb (4 * slice_count h) room ≡ b → Yes w h f room
      by_table s false x = absurd (let d = rw s at e in let z = rw x at d in omega arith)
      by_table s true x = let d = rw s at e in record { header = sym (rw x at d); enough = leb-true (4 * slice_count h) room x; is = rw (s, x) }

      by_size : (b : Bool) → size_ok w h ≡ b → Yes w h f room
      by_size false s = absurd (let z = rw s at e in omega arith)
      by_size true s = by_table s (leb (4 * slice_count h) room) refl

-- a walk's answer about a frame, and its table, of the size that the call was given
pub tabled : (w h : ℕ) (f t : List ℕ) {w' h' : ℕ} {t' : List ℕ} {a : Answer FrameRead} → w' ≡ w → h' ≡ h → tabled_of w h f (length t) ≡ parse_of w h f → Tabled w' h' f t t' a → views_as a t' ≡ all_views_of w h f t
tabled w h f t u v e d = rw (e, ← u, ← v) (ap₂ views_as d.says d.leaves)
