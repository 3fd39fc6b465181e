-- The number of a reading call's answer, by what it is given: rows by their lengths. Document 01, 'The questions before any work'.
use Rattle.std.specs.Prelude.{◌≡◌, List, ℕ, length, get_or}
use Rattle.calls.specs.Arguments.{Depth, PerStream, Buffers}
use Rattle.calls.specs.Views.{plane_call, slice_call}
use Rattle.calls.specs.declared.Settings.{Settings}
use Rattle.calls.specs.declared.Shape.{Shape}
use Rattle.calls.specs.declared.Four.{Four}
use Rattle.slice.specs.Calls.{decode}

-- of a call on one plane whose rows have so many samples, whatever they are
abbrev pub PlaneVerdict : Settings → Shape → ℕ → Buffers → PerStream → ℕ → Type 0
PlaneVerdict s h rows b at r = (depth : Depth) (samples : List ℕ) → length samples ≡ rows → r ≡ (decode (plane_call depth s h samples) b at).number

-- of a call on the first of four planes
abbrev pub SliceVerdict : Settings → Four → List ℕ → Buffers → PerStream → ℕ → Type 0
SliceVerdict s f rows b at r =
    (depth : Depth) (p0 p1 p2 p3 : List ℕ)
    → length p0 ≡ get_or rows 0 0 → length p1 ≡ get_or rows 1 0 → length p2 ≡ get_or rows 2 0 → length p3 ≡ get_or rows 3 0
    → r ≡ (decode (slice_call depth s f p0 p1 p2 p3) b at).number
