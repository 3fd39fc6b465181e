-- Laws of the header, over the definitions.
use mathlib.Core.Path.{◌≡◌, refl}
use mathlib.Core.Bool.{Bool, true, false}
use mathlib.Core.List.{List}
use Prim.Native.Nat.{ℕ, ◌+◌, ◌≤◌}
use native.Mathlib.Omega.{arith}
use mir.Val.{Fits}
use mir.Syntax.{w64}
use lib.Dec.{leb, eqb}
use lib.ListN.{length}
use borrow.Author.Tests.{le-leb, leb-true}
use Rattle.ask.specs.Ask.{first_no}
use Rattle.ask.specs.Limits.{shift_max}
use Rattle.layout.proofs.Laws.{sized}
use Rattle.layout.specs.Geometry.{size_ok}
use Rattle.parser.specs.streams.Streams.{byte_at}
use Rattle.parser.specs.head.Header.{format_at, shift_in, slice_count_ok, header_questions, LegalFrame}

-- ---- the header
pub format_small : (f : List ℕ) → format_at f ≤ 2
format_small f = go (eqb (byte_at f 0) 3) refl
  where
    go : (b : Bool) → eqb (byte_at f 0) 3 ≡ b → format_at f ≤ 2
    go true e = rw e (omega arith)
    go false e = rw e (omega arith)

-- after the header, still in the frame
module _ (f : List ℕ) {at : ℕ} (e : at ≡ format_at f) where
  pub begins_inside : 5 ≤ length f → at + 3 ≤ length f
  begins_inside k = omega (arith, format_small f)

-- ---- the first "no" about the header
module _ (w h : ℕ) (f : List ℕ) where
  pub all_yes : size_ok w h ≡ true → 5 ≤ length f → 1 ≤ byte_at f 0 → byte_at f 0 ≤ 3 → shift_in f ≤ shift_max → slice_count_ok h f ≡ true → first_no (header_questions w h f) ≡ 0
  unfolding first_no header_questions
  all_yes a b d e g i = rw (a, le-leb 5 (length f) b, le-leb 1 (byte_at f 0) d, le-leb (byte_at f 0) 3 e, le-leb (shift_in f) shift_max g, i)

  -- a legal size and five bytes at least, where all answers are yes
  pub legal : first_no (header_questions w h f) ≡ 0 → LegalFrame w h f
  unfolding first_no header_questions
  legal e = go (size_ok w h) refl (leb 5 (length f)) refl
    where
      go : (a : Bool) → size_ok w h ≡ a → (b : Bool) → leb 5 (length f) ≡ b → LegalFrame w h f
      go false x b y = absurd (let z = rw x at e in omega arith)
      go true x false y = absurd (let z = rw (x, y) at e in omega arith)
      go true x true y = record { wide = (sized w h x).wide; high = (sized w h x).high; five = leb-true 5 (length f) y }
