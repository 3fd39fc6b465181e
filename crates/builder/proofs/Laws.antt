-- Laws of the builder's header.
use mathlib.Core.Path.{◌≡◌, refl, sym}
use mathlib.Core.Bool.{Bool, true, false}
use mathlib.Core.List.{List, [], ◌∷◌}
use Prim.Native.Nat.{ℕ, zero, suc, ◌+◌, ◌%◌, ◌≤◌, ◌<◌}
use native.Mathlib.Omega.{arith}
use lib.Dec.{leb}
use lib.ListN.{length}
use borrow.Author.Tests.{le-leb, leb-true}
use Rattle.ask.proofs.Asked.{asked_no}
use Rattle.ask.specs.Refusals.{number_of}
use Rattle.ask.specs.declared.refusal.Refusal.{Refusal}
use Rattle.ask.specs.Ask.{Answer, refused, accepted, first_no, asked}
use Rattle.ask.specs.Limits.{shift_max}
use Rattle.bits.specs.Lay.{lay}
use Rattle.layout.specs.Geometry.{size_ok, slice_count}
use Rattle.builder.specs.Build.{Build, Built, header_size, header_bytes, format_byte, start_questions, header_of, started, count_byte}

pub five : (shift : ℕ) → (shift ≡ 0 → ⊥) → header_size shift ≡ 5
five zero h = absurd (h refl)
five (suc s) h = refl

-- ---- the header's bytes
pub long_header : (interlaced : Bool) (quality shift count : ℕ) → (shift ≡ 0 → ⊥) → 3 ∷ shift ∷ format_byte interlaced ∷ quality ∷ count ∷ [] ≡ header_bytes interlaced quality shift count
unfolding header_bytes
long_header interlaced quality zero count h = absurd (h refl)
long_header interlaced quality (suc s) count h = refl

pub short_header : (interlaced : Bool) (quality shift count : ℕ) → shift ≡ 0 → format_byte interlaced ∷ quality ∷ count ∷ [] ≡ header_bytes interlaced quality shift count
unfolding header_bytes
short_header interlaced quality shift count e = rw e

-- ---- what the questions leave
pub all_yes : (w h shift len at : ℕ) → shift ≤ shift_max → leb (at + header_size shift) len ≡ true → size_ok w h ≡ true → first_no (start_questions w h shift len at) ≡ 0
unfolding start_questions first_no
all_yes w h shift len at a b d = rw (le-leb shift shift_max a, b, d)

pub record Starts (w h shift len at : ℕ) : Type 0 where
  pub size : size_ok w h ≡ true
  pub small : shift ≤ shift_max
  pub room : at + header_size shift ≤ len

pub starts : (w h shift len at : ℕ) → first_no (start_questions w h shift len at) ≡ 0 → Starts w h shift len at
unfolding start_questions first_no
starts w h shift len at e = go (leb shift shift_max) refl (leb (at + header_size shift) len) refl (size_ok w h) refl
  where
    go : (a : Bool) → leb shift shift_max ≡ a → (b : Bool) → leb (at + header_size shift) len ≡ b → (d : Bool) → size_ok w h ≡ d → Starts w h shift len at
    go false x b y d z = absurd (let k = rw x at e in omega arith)
    go true x false y d z = absurd (let k = rw (x, y) at e in omega arith)
    go true x true y false z = absurd (let k = rw (x, y, z) at e in omega arith)
    go true x true y true z =
        record {
          size = z;
          small = leb-true shift shift_max x;
          room = leb-true (at + header_size shift) len y;
        }

-- ---- the answers
module _ (w h : ℕ) (interlaced : Bool) (quality shift : ℕ) (out : List ℕ) (at : ℕ) where
  pub header_refused : (e : Refusal) → number_of e ≡ first_no (start_questions w h shift (length out) at) → header_of w h interlaced quality shift out at ≡ refused (number_of e)
  unfolding header_of
  header_refused e k = sym (asked_no _ _ e k)

  pub header_no : {n : ℕ} → n ≡ first_no (start_questions w h shift (length out) at) → 0 < n → header_of w h interlaced quality shift out at ≡ refused n
  unfolding header_of asked
  header_no {n = zero} e k = absurd (omega arith)
  header_no {n = suc n} e k = rw (← e)

  pub header_yes : first_no (start_questions w h shift (length out) at) ≡ 0
      → header_of w h interlaced quality shift out at
      ≡ accepted (record { state = started (at + header_size shift); bytes = lay out at (header_bytes interlaced quality shift (count_byte h)) })
  unfolding header_of asked
  header_yes e = rw e

-- a state and the buffer that a call leaves
abbrev pub built : Build → List ℕ → Answer Built
built b m = accepted (record { state = b; bytes = m })

pub frame_built : (h : ℕ) (interlaced : Bool) (quality : ℕ) (out : List ℕ) (at : ℕ) {shift named slices n : ℕ} {m : List ℕ}
    → shift ≡ named → slices ≡ slice_count h → n ≡ header_size shift → m ≡ lay out at (header_bytes interlaced quality shift (slices % 256))
    → built (started (at + header_size named)) (lay out at (header_bytes interlaced quality named (count_byte h)))
    ≡ built (started (at + n)) m
frame_built h interlaced quality out at p q u v = rw (v, u, q, p) refl
