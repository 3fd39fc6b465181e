-- The questions of the coding calls at their limits, and their order.
use mathlib.Core.Path.{◌≡◌, refl}
use mathlib.Core.Bool.{true}
use mathlib.Core.List.{[], ◌∷◌, ◌++◌}
use Rattle.ask.specs.Ask.{first_no}
use Rattle.ask.proofs.AtLimits.{no, limits, holds}
use Rattle.calls.proofs.Orders.{on_plane, on_slice, plane_broken, slice_broken}
use Rattle.slice.specs.Room.{coding_questions}

-- 8 and 394 bytes are room for the two blocks of a plane of stride 8, from the start on; starts end at 16,777,215, and a start after the
-- buffer's end leaves no room
coding_plane : holds (on_plane coding_questions)
    (limits (24 ∷ 15 ∷ 3 ∷ 8 ∷ 128 ∷ 8 ∷ 394 ∷ 0 ∷ 0 ∷ []) (plane_broken ++ (no 6 5 7 ∷ no 6 6 393 ∷ no 6 7 1 ∷ no 6 8 1 ∷ []))
    ∷ limits (24 ∷ 15 ∷ 3 ∷ 8 ∷ 128 ∷ 108 ∷ 594 ∷ 100 ∷ 200 ∷ [])
    (plane_broken ++ (no 6 5 107 ∷ no 6 6 593 ∷ no 6 7 101 ∷ no 6 8 201 ∷ no 6 7 109 ∷ no 6 8 595 ∷ no 6 7 16777216 ∷ no 6 8 16777216 ∷ []))
    ∷ limits (0 ∷ 0 ∷ 0 ∷ 8 ∷ 129 ∷ 99999999 ∷ 99999999 ∷ 16777215 ∷ 16777215 ∷ [])
    (plane_broken ++ (no 6 5 16777222 ∷ no 6 6 16777608 ∷ no 7 7 16777216 ∷ no 7 8 16777216 ∷ []))
    ∷ limits (0 ∷ 0 ∷ 0 ∷ 8 ∷ 129 ∷ 16777223 ∷ 16777609 ∷ 16777215 ∷ 16777215 ∷ []) []
    ∷ [])
    ≡ true
unfolding on_plane first_no coding_questions
coding_plane = refl

-- the room of a slice is that of all its planes; planes above the count are not asked about
coding_slice : holds (on_slice coding_questions)
    (limits (24 ∷ 15 ∷ 4 ∷ 8 ∷ 8 ∷ 8 ∷ 8 ∷ 128 ∷ 128 ∷ 128 ∷ 128 ∷ 132 ∷ 1776 ∷ 100 ∷ 200 ∷ [])
    (slice_broken ++ (no 6 11 131 ∷ no 6 12 1775 ∷ no 6 13 101 ∷ no 6 14 201 ∷ no 6 13 16777216 ∷ no 6 14 16777216 ∷ []))
    ∷ limits (24 ∷ 15 ∷ 4 ∷ 8 ∷ 8 ∷ 8 ∷ 8 ∷ 128 ∷ 128 ∷ 128 ∷ 128 ∷ 99999999 ∷ 99999999 ∷ 16777215 ∷ 16777215 ∷ [])
    (slice_broken ++ (no 6 11 16777246 ∷ no 6 12 16778790 ∷ no 7 13 16777216 ∷ no 7 14 16777216 ∷ []))
    ∷ limits (0 ∷ 0 ∷ 1 ∷ 8 ∷ 9 ∷ 8 ∷ 8 ∷ 128 ∷ 0 ∷ 0 ∷ 128 ∷ 8 ∷ 394 ∷ 0 ∷ 0 ∷ []) (no 4 2 2 ∷ no 6 11 7 ∷ [])
    ∷ limits (0 ∷ 0 ∷ 2 ∷ 8 ∷ 8 ∷ 8 ∷ 9 ∷ 128 ∷ 128 ∷ 127 ∷ 128 ∷ 16 ∷ 788 ∷ 0 ∷ 0 ∷ []) (no 4 2 4 ∷ no 5 2 3 ∷ no 6 12 787 ∷ [])
    ∷ [])
    ≡ true
unfolding on_slice first_no coding_questions
coding_slice = refl
