-- The answers of the coding calls. Document 01, 'The questions before any work'.
use Rattle.std.specs.Prelude.{List, ℕ, Result, Ok, Err}
use Rattle.ask.specs.Refusals.{number_of}
use Rattle.slice.specs.Calls.{Coded}
use Rattle.questions.specs.declared.answers.Refused.{Refused}
use Rattle.calls.specs.declared.Positions.{Positions}
use Rattle.calls.specs.Arguments.{buffers}
use Rattle.calls.specs.Told.{Told, refusal, acceptance, told}
use Rattle.calls.specs.Views.{positions_by}

-- document 01's number and positions of an answer, with both buffers at exit
abbrev pub code_says : Result Positions Refused → List ℕ → List ℕ → Told Coded
code_says (Err e) dcs acs = refusal (record { number = number_of e.no; at = positions_by e.start; buffers = buffers dcs acs })
code_says (Ok at) dcs acs = acceptance (record { number = 0; at = positions_by at; buffers = buffers dcs acs })

abbrev pub code_told : Coded → Told Coded
code_told k = told k.number k
