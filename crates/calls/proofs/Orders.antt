-- The questions of the calls on planes and slices at their limits, and their order. `no 4 3 7688`: with the number at place 3, counted from 0,
-- set to 7,688 the call is refused with 4.
use mathlib.Core.Path.{◌≡◌, refl}
use mathlib.Core.Bool.{true}
use mathlib.Core.List.{List, [], ◌∷◌, ◌++◌}
use Prim.Native.Nat.{ℕ}
use lib.IntN.{pos}
use lib.ListN.{get_or, replicate}
use Rattle.scalar.specs.Scalar.{wrap16, add_of, sra_of}
use Rattle.ask.specs.Ask.{Question, refused, accepted, first_no, asked}
use Rattle.ask.proofs.AtLimits.{Broken, no, limits, holds}
use Rattle.calls.specs.Arguments.{eight, Settings, Rows, Call, one_plane, one_slice, PerStream}
use Rattle.calls.specs.Questions.{reading_questions, preview_questions, report_questions, plane_size_questions, slice_size_questions}
use Rattle.calls.specs.Previews.{preview_byte, plane_size, slice_size, first_of_four}

abbrev blank : ℕ → List ℕ
blank n = replicate n 0

abbrev both : ℕ → ℕ → PerStream
both d a = record { dc = d; ac = a }

abbrev given : ℕ → ℕ → Settings
given preset shift = record { depth = eight; preset = preset; shift = shift }

abbrev rows : ℕ → ℕ → Rows
rows stride samples = record { stride = stride; samples = blank samples }

-- ---- a call on one plane, by its numbers: preset, shift, place, stride, samples, lengths of both streams, starts in them
unfoldable pub on_plane : (Call → PerStream → PerStream → List Question) → List ℕ → ℕ
on_plane questions l =
    let at : ℕ → ℕ = λ k. get_or l k 0 in
    first_no (questions (one_plane (given (at 0) (at 1)) (record { place = at 2; stride = at 3; samples = blank (at 4) })) (both (at 5) (at 6)) (both (at 7) (at 8)))

-- ---- on a slice: preset, shift, count, four strides, samples of four planes, lengths of both streams, starts in them
unfoldable pub on_slice : (Call → PerStream → PerStream → List Question) → List ℕ → ℕ
on_slice questions l =
    let at : ℕ → ℕ = λ k. get_or l k 0 in
    first_no (questions (one_slice (given (at 0) (at 1)) (at 2) (rows (at 3) (at 7)) (rows (at 4) (at 8)) (rows (at 5) (at 9)) (rows (at 6) (at 10))) (both (at 11) (at 12)) (both (at 13) (at 14)))

-- ways to break questions 1 to 5 of a plane of stride 8
abbrev pub plane_broken : List Broken
plane_broken =
    no 1 0 25
    ∷ no 2 1 16
    ∷ no 3 2 4
    ∷ no 4 3 0 ∷ no 4 3 7 ∷ no 4 3 12 ∷ no 4 3 7688
    ∷ no 5 3 7680 ∷ no 5 3 16 ∷ no 5 4 127
    ∷ []

-- of four planes of stride 8; each question is put over all planes before the next one
abbrev pub slice_broken : List Broken
slice_broken =
    no 1 0 25
    ∷ no 2 1 16
    ∷ no 3 2 0 ∷ no 3 2 5
    ∷ no 4 3 0 ∷ no 4 4 7 ∷ no 4 5 12 ∷ no 4 6 7688
    ∷ no 5 6 7680 ∷ no 5 3 16 ∷ no 5 7 127 ∷ no 5 8 127 ∷ no 5 9 127 ∷ no 5 10 127
    ∷ []

reading_plane : holds (on_plane reading_questions)
    (limits (24 ∷ 15 ∷ 3 ∷ 8 ∷ 128 ∷ 245760 ∷ 430080 ∷ 16777215 ∷ 16777215 ∷ [])
    (plane_broken ++ (no 7 5 245761 ∷ no 7 6 430081 ∷ no 7 7 16777216 ∷ no 7 8 16777216 ∷ []))
    ∷ limits (0 ∷ 0 ∷ 0 ∷ 8 ∷ 129 ∷ 0 ∷ 0 ∷ 0 ∷ 0 ∷ []) []
    ∷ limits (0 ∷ 0 ∷ 0 ∷ 16 ∷ 256 ∷ 0 ∷ 0 ∷ 0 ∷ 0 ∷ []) (no 5 4 255 ∷ [])
    ∷ [])
    ≡ true
unfolding on_plane first_no reading_questions
reading_plane = refl

-- planes above the count are not asked about
reading_slice : holds (on_slice reading_questions)
    (limits (24 ∷ 15 ∷ 4 ∷ 8 ∷ 8 ∷ 8 ∷ 8 ∷ 128 ∷ 128 ∷ 128 ∷ 128 ∷ 245760 ∷ 430080 ∷ 16777215 ∷ 16777215 ∷ [])
    (slice_broken ++ (no 7 11 245761 ∷ no 7 12 430081 ∷ no 7 13 16777216 ∷ no 7 14 16777216 ∷ []))
    ∷ limits (0 ∷ 0 ∷ 1 ∷ 8 ∷ 9 ∷ 8 ∷ 8 ∷ 128 ∷ 0 ∷ 0 ∷ 128 ∷ 0 ∷ 0 ∷ 0 ∷ 0 ∷ []) (no 4 2 2 ∷ [])
    ∷ limits (0 ∷ 0 ∷ 2 ∷ 8 ∷ 8 ∷ 8 ∷ 9 ∷ 128 ∷ 128 ∷ 127 ∷ 128 ∷ 0 ∷ 0 ∷ 0 ∷ 0 ∷ []) (no 4 2 4 ∷ no 5 2 3 ∷ [])
    ∷ [])
    ≡ true
unfolding on_slice first_no reading_questions
reading_slice = refl

-- ---- a preview: shift, place, stride, bytes of both outputs, the DC stream's length and start
unfoldable of_preview : List ℕ → ℕ
of_preview l =
    let at : ℕ → ℕ = λ k. get_or l k 0 in
    first_no (preview_questions (at 0) (at 1) (at 2) (blank (at 3)) (blank (at 4)) (at 5) (at 6))

preview_limits : holds of_preview
    (limits (15 ∷ 3 ∷ 8 ∷ 1 ∷ 1 ∷ 245760 ∷ 16777215 ∷ [])
    (no 2 0 16
    ∷ no 3 1 4
    ∷ no 4 2 0 ∷ no 4 2 7 ∷ no 4 2 12 ∷ no 4 2 7688
    ∷ no 5 2 7680 ∷ no 5 2 16 ∷ no 5 3 0 ∷ no 5 4 0
    ∷ no 7 5 245761 ∷ no 7 6 16777216
    ∷ [])
    ∷ [])
    ≡ true
unfolding of_preview first_no preview_questions
preview_limits = refl

-- ---- a block report: stride, bytes of the output, the AC stream's length and start
unfoldable of_report : List ℕ → ℕ
of_report l = let at : ℕ → ℕ = λ k. get_or l k 0 in first_no (report_questions (at 0) (blank (at 1)) (at 2) (at 3))

report_limits : holds of_report
    (limits (8 ∷ 2 ∷ 430080 ∷ 16777215 ∷ [])
    (no 4 0 0 ∷ no 4 0 7 ∷ no 4 0 12 ∷ no 4 0 7688
    ∷ no 5 0 7680 ∷ no 5 0 16 ∷ no 5 1 1
    ∷ no 7 2 430081 ∷ no 7 3 16777216
    ∷ [])
    ∷ [])
    ≡ true
unfolding of_report first_no report_questions
report_limits = refl

-- ---- size calls: a stride; a count and four strides
unfoldable of_plane_size : List ℕ → ℕ
of_plane_size l = first_no (plane_size_questions (get_or l 0 0))

plane_size_limits : holds of_plane_size (limits (8 ∷ []) (no 4 0 0 ∷ no 4 0 7 ∷ no 4 0 12 ∷ []) ∷ limits (7680 ∷ []) (no 4 0 7688 ∷ []) ∷ []) ≡ true
unfolding of_plane_size first_no plane_size_questions
plane_size_limits = refl

unfoldable of_slice_size : List ℕ → ℕ
of_slice_size l = let at : ℕ → ℕ = λ k. get_or l k 0 in first_no (slice_size_questions (at 0) (first_of_four (at 0) (at 1) (at 2) (at 3) (at 4)))

slice_size_limits : holds of_slice_size
    (limits (4 ∷ 8 ∷ 7680 ∷ 8 ∷ 7680 ∷ []) (no 3 0 0 ∷ no 3 0 5 ∷ no 4 1 0 ∷ no 4 2 7 ∷ no 4 3 12 ∷ no 4 4 7688 ∷ [])
    ∷ limits (1 ∷ 8 ∷ 9 ∷ 8 ∷ 8 ∷ []) (no 4 0 2 ∷ [])
    ∷ [])
    ≡ true
unfolding of_slice_size first_no slice_size_questions
slice_size_limits = refl

sizes : plane_size 8 ∷ slice_size 2 16 8 9 9 ∷ slice_size 5 9 9 9 9 ∷ slice_size 4 8 8 8 9 ∷ plane_size 0 ∷ []
    ≡ accepted (both 8 394) ∷ accepted (both 24 1182) ∷ refused 3 ∷ refused 4 ∷ refused 4 ∷ []
unfolding plane_size slice_size asked first_no plane_size_questions slice_size_questions
sizes = refl

-- "a DC of 1020 at level 128 gives 0 here"
preview_wraps : preview_byte 0 (pos 1020) ≡ 0
unfolding preview_byte add_of sra_of wrap16
preview_wraps = refl
