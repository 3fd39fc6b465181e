-- The questions to a call in their order, some of them answered already. Document 01, 'The questions before any work'.
use Rattle.std.specs.Prelude.{Bool, List, [], ◌∷◌, ◌++◌, ℕ, ◌*◌}
use Rattle.ask.specs.Ask.{Question, ask}
use Rattle.ask.specs.Numbers.{no_room}
use Rattle.ask.specs.Limits.{dc_column_bytes, ac_column_bytes}
use Rattle.calls.specs.Arguments.{PerStream}
use Rattle.calls.specs.Questions.{first_five, together, fits, coding_starts_question, reading_starts_question}

-- "4 bytes a block for DC, 197 for AC"
abbrev pub room_of : ℕ → PerStream
room_of columns = record { dc = dc_column_bytes * columns; ac = ac_column_bytes * columns }

abbrev pub coding_by : ℕ → ℕ → Bool → Bool → Bool → ℕ → PerStream → PerStream → List Question
coding_by preset shift which strides rows columns lengths at =
    first_five preset shift which strides rows ++ (ask (fits (together at (room_of columns)) lengths) no_room ∷ coding_starts_question at ∷ [])

abbrev pub reading_by : ℕ → ℕ → Bool → Bool → Bool → PerStream → PerStream → List Question
reading_by preset shift which strides rows lengths at = first_five preset shift which strides rows ++ (reading_starts_question lengths at ∷ [])
