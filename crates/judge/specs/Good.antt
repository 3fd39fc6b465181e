-- Whether a bad code stands in what a reading call reaches. Document 01, 'Plane and slice' and question 8: "z at most 54 in every code reached?"
use Rattle.std.specs.Prelude.{Bool, true, false, List, [], ◌∷◌, ℕ, ◌*◌, ◌≤◌, ◌<◌, take}
use Rattle.ask.specs.Limits.{planes_max, stride_max}
use Rattle.ask.specs.Ask.{Answer, refused, accepted}
use Rattle.bits.specs.Bits.{bit_at}
use Rattle.calls.specs.Arguments.{Plane}
use Rattle.calls.specs.Views.{stride_by}
use Rattle.calls.specs.declared.Four.{Four}
use Rattle.calls.specs.ReadPlane.{read_steps, read_blocks}
use Rattle.calls.specs.Grid.{blocks_of}
use Rattle.slice.specs.Calls.{PlanesRead, bad_planes, planes_read}
use Rattle.acread.specs.through.Through.{ac_end}
use Rattle.acread.specs.through.Codes.{dc_end}

-- no bad code in any of the planes read
abbrev pub good_planes : PlanesRead → Bool
good_planes bad_planes = false
good_planes (planes_read bs at) = true

abbrev pub strides : List Plane → List ℕ
strides [] = []
strides (p ∷ ps) = p.stride ∷ strides ps

-- the strides of the first of four planes
abbrev pub first_strides : Four → List ℕ
first_strides f = take f.count (stride_by f 0 ∷ stride_by f 1 ∷ stride_by f 2 ∷ stride_by f 3 ∷ [])

-- what questions 3 and 4 leave of them
abbrev pub StridesFit : Four → Type 0
StridesFit f = (f.count ≤ planes_max) × ((k : ℕ) → k < f.count → stride_by f k ≤ stride_max)

-- ---- one stream by itself

-- the byte where a plane's DC stream ends that begins at the byte `at`, its AC stream likewise; refused at a bad code
abbrev pub dc_plane : List ℕ → ℕ → ℕ → Answer ℕ
dc_plane dc stride at = dc_end (read_steps (blocks_of stride) (bit_at dc) (8 * at))

abbrev pub ac_plane : List ℕ → ℕ → ℕ → Answer ℕ
ac_plane ac stride at = ac_end (read_blocks (blocks_of stride) (bit_at ac) (8 * at) 0)

-- the DC stream, or the AC stream
abbrev pub stream_plane : Bool → List ℕ → ℕ → ℕ → Answer ℕ
stream_plane true l stride at = dc_plane l stride at
stream_plane false l stride at = ac_plane l stride at

abbrev pub goes_on : Answer ℕ → (ℕ → Bool) → Bool
goes_on (refused n) next = false
goes_on (accepted q) next = next q

-- planes of these strides, each read from where the one before ended: no bad code in any
unfoldable pub good_in_turn : (ℕ → ℕ → Answer ℕ) → List ℕ → ℕ → Bool
good_in_turn read [] at = true
good_in_turn read (w ∷ ws) at = goes_on (read w at) (λ q. good_in_turn read ws q)
