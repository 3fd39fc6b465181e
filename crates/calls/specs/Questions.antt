-- The questions before any work that concern calls on planes and slices, in their order. Document 01, 'The questions before any work'.
-- Question 6 of a coding call depends on its coefficients' streams: slice/specs/Room.
use Rattle.std.specs.Prelude.{Bool, true, ◌&&◌, List, [], ◌∷◌, ◌++◌, ℕ, ◌+◌, ◌*◌, ◌/◌, leb, length}
use Rattle.ask.specs.Ask.{Question, ask}
use Rattle.ask.specs.Numbers.{no_preset, no_shift, no_plane, no_stride, no_rows, no_start}
use Rattle.ask.specs.Limits.{preset_ok, shift_ok, place_ok, count_ok, stride_ok, rows_needed, dc_block_bytes, ac_block_bytes, start_ok, dc_read_ok, ac_read_ok}
use Rattle.calls.specs.Arguments.{Plane, Call, one_plane, one_slice, settings_of, planes_of, PerStream}
use Rattle.calls.specs.Grid.{blocks_of}

-- "Preset 0 to 24? No: 1."
abbrev pub preset_question : ℕ → Question
preset_question preset = ask (preset_ok preset) no_preset

-- "DC shift 0 to 15? No: 2."
abbrev pub shift_question : ℕ → Question
shift_question shift = ask (shift_ok shift) no_shift

-- "Plane place 0 to 3, plane count 1 to 4? No: 3."
abbrev pub which_planes_ok : Call → Bool
which_planes_ok (one_plane σ p) = place_ok p.place
which_planes_ok (one_slice σ n a b c d) = count_ok n

-- a question about a slice is put over all its planes before the next question
abbrev pub each : (Plane → Bool) → List Plane → Bool
each f [] = true
each f (p ∷ ps) = f p && each f ps

-- "Stride a multiple of 8 from 8 to 7,680? No: 4."
abbrev pub strides_ok : List Plane → Bool
strides_ok ps = each (λ p. stride_ok p.stride) ps

-- "Rows at least 16 x stride (preview: each output at least stride / 8; block report: stride / 4 bytes)? No: 5."
abbrev pub rows_ok : Plane → Bool
rows_ok p = leb (rows_needed p.stride) (length p.samples)

abbrev pub preview_question : ℕ → List ℕ → List ℕ → Question
preview_question stride upper lower = ask (leb (stride / 8) (length upper) && leb (stride / 8) (length lower)) no_rows

abbrev pub report_question : ℕ → List ℕ → Question
report_question stride report = ask (leb (stride / 4) (length report)) no_rows

-- questions 1 to 5, some of them answered already
abbrev pub first_five : ℕ → ℕ → Bool → Bool → Bool → List Question
first_five preset shift which strides rows =
    preset_question preset ∷ shift_question shift ∷ ask which no_plane ∷ ask strides no_stride ∷ ask rows no_rows ∷ []

-- questions 1 to 5 of a call: coding and reading share them
abbrev pub shared_questions : Call → List Question
shared_questions c =
    first_five (settings_of c).preset (settings_of c).shift (which_planes_ok c) (strides_ok (planes_of c)) (each rows_ok (planes_of c))

-- "a length that each stream is at most: 4 bytes a block for DC, 197 for AC"
abbrev pub lengths_at_most : ℕ → PerStream
lengths_at_most stride = record { dc = dc_block_bytes * blocks_of stride; ac = ac_block_bytes * blocks_of stride }

abbrev pub together : PerStream → PerStream → PerStream
together x y = record { dc = x.dc + y.dc; ac = x.ac + y.ac }

abbrev pub fits : PerStream → PerStream → Bool
fits need lengths = leb need.dc lengths.dc && leb need.ac lengths.ac

-- "Starts at most 16,777,215 and, of streams read only, DC at most 245,760 bytes, AC at most 430,080? No: 7."
abbrev pub starts_ok : PerStream → Bool
starts_ok at = start_ok at.dc && start_ok at.ac

abbrev pub coding_starts_question : PerStream → Question
coding_starts_question at = ask (starts_ok at) no_start

abbrev pub reading_starts_question : PerStream → PerStream → Question
reading_starts_question lengths at = ask (starts_ok at && (dc_read_ok lengths.dc && ac_read_ok lengths.ac)) no_start

-- a reading call, before question 8, which reading itself answers
unfoldable pub reading_questions : Call → PerStream → PerStream → List Question
reading_questions c lengths at = shared_questions c ++ (reading_starts_question lengths at ∷ [])

-- a preview of one plane: shift, place, stride, the two outputs, and the DC stream's length and start
unfoldable pub preview_questions : ℕ → ℕ → ℕ → List ℕ → List ℕ → ℕ → ℕ → List Question
preview_questions shift place stride upper lower bytes at =
    shift_question shift
    ∷ ask (place_ok place) no_plane
    ∷ ask (stride_ok stride) no_stride
    ∷ preview_question stride upper lower
    ∷ ask (start_ok at && dc_read_ok bytes) no_start
    ∷ []

-- a block report: stride, the output, and the AC stream's length and start
unfoldable pub report_questions : ℕ → List ℕ → ℕ → ℕ → List Question
report_questions stride report bytes at =
    ask (stride_ok stride) no_stride ∷ report_question stride report ∷ ask (start_ok at && ac_read_ok bytes) no_start ∷ []

-- the size call, for one plane and for a slice
unfoldable pub plane_size_questions : ℕ → List Question
plane_size_questions stride = ask (stride_ok stride) no_stride ∷ []

unfoldable pub slice_size_questions : ℕ → List Plane → List Question
slice_size_questions n ps = ask (count_ok n) no_plane ∷ ask (strides_ok ps) no_stride ∷ []
