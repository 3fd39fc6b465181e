-- The room that a coding call asks, and its questions. Document 01, 'The questions before any work'.
use Rattle.std.specs.Prelude.{List, [], ◌∷◌, ◌++◌, ℕ}
use Rattle.ask.specs.Ask.{Question, ask}
use Rattle.ask.specs.Numbers.{no_room}
use Rattle.calls.specs.Arguments.{Settings, Plane, Call, settings_of, planes_of, PerStream}
use Rattle.calls.specs.Questions.{shared_questions, lengths_at_most, together, fits, coding_starts_question}

-- the size call's lengths for a plane: of its stride alone
abbrev pub room_for : Settings → Plane → PerStream
room_for σ p = lengths_at_most p.stride

-- of all planes of a slice
abbrev pub room_for_all : Settings → List Plane → PerStream
room_for_all σ [] = record { dc = 0; ac = 0 }
room_for_all σ (p ∷ ps) = together (room_for σ p) (room_for_all σ ps)

-- "Room behind the start for the size call's lengths? No: 6."
abbrev pub room_question : Settings → List Plane → PerStream → PerStream → Question
room_question σ ps lengths at = ask (fits (together at (room_for_all σ ps)) lengths) no_room

-- a coding call, at buffers of these lengths and at these positions
unfoldable pub coding_questions : Call → PerStream → PerStream → List Question
coding_questions c lengths at = shared_questions c ++ (room_question (settings_of c) (planes_of c) lengths at ∷ coding_starts_question at ∷ [])
