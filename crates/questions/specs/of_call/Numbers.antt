-- The number of the first "no" to a call, by what it is given: rows and streams by their lengths.
use Rattle.std.specs.Prelude.{◌≡◌, List, [], ◌∷◌, ℕ, ◌+◌, length, get_or}
use Rattle.ask.specs.Ask.{Question, first_no}
use Rattle.calls.specs.Arguments.{Depth, Plane, Call, PerStream}
use Rattle.calls.specs.Views.{plane_call, slice_call, lengths_by, starts_by}
use Rattle.calls.specs.Grid.{columns_of}
use Rattle.calls.specs.declared.Settings.{Settings}
use Rattle.calls.specs.declared.Shape.{Shape}
use Rattle.calls.specs.declared.Four.{Four}
use Rattle.calls.specs.declared.Streams.{Streams}

-- the number r of a call on one plane whose rows have so many samples, whatever they are
abbrev pub PlaneNumber : (Call → PerStream → PerStream → List Question) → Settings → Shape → ℕ → Streams → ℕ → Type 0
PlaneNumber questions s h rows streams r =
    (depth : Depth) (samples : List ℕ) → length samples ≡ rows → r ≡ first_no (questions (plane_call depth s h samples) (lengths_by streams) (starts_by streams))

-- of a call on the first of four planes
abbrev pub SliceNumber : (Call → PerStream → PerStream → List Question) → Settings → Four → List ℕ → Streams → ℕ → Type 0
SliceNumber questions s f rows streams r =
    (depth : Depth) (p0 p1 p2 p3 : List ℕ)
    → length p0 ≡ get_or rows 0 0 → length p1 ≡ get_or rows 1 0 → length p2 ≡ get_or rows 2 0 → length p3 ≡ get_or rows 3 0
    → r ≡ first_no (questions (slice_call depth s f p0 p1 p2 p3) (lengths_by streams) (starts_by streams))

-- blocks side by side, of all planes together
abbrev pub columns_in : List Plane → ℕ
columns_in [] = 0
columns_in (p ∷ ps) = columns_of p.stride + columns_in ps
