-- The answers of the reading calls. Document 01, 'Plane and slice' and 'The questions before any work'.
use Rattle.std.specs.Prelude.{List, ℕ, Result, Ok, Err}
use Rattle.ask.specs.Refusals.{number_of}
use Rattle.slice.specs.Calls.{Decoded}
use Rattle.questions.specs.declared.answers.Refused.{Refused}
use Rattle.calls.specs.declared.Positions.{Positions}
use Rattle.calls.specs.Told.{Told, refusal, acceptance, told}
use Rattle.calls.specs.Views.{positions_by}

-- document 01's number and positions of an answer, with the rows of every lent plane at exit
abbrev pub read_says : Result Positions Refused → List (List ℕ) → Told Decoded
read_says (Err e) rows = refusal (record { number = number_of e.no; at = positions_by e.start; rows = rows })
read_says (Ok at) rows = acceptance (record { number = 0; at = positions_by at; rows = rows })

abbrev pub read_told : Decoded → Told Decoded
read_told k = told k.number k
