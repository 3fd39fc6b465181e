-- What a refused call hands back.
use Rattle.std.specs.Prelude.{ℕ, Result, Ok, Err}
use Rattle.ask.specs.Refusals.{number_of}
use Rattle.calls.specs.declared.Positions.{Positions}
use Rattle.questions.specs.declared.answers.Refused.{Refused}

-- document 01's number, 0 where the call goes on
abbrev pub given_at : {A : Type 0} → Result A Refused → ℕ
given_at (Ok a) = 0
given_at (Err e) = number_of e.no

-- the positions handed back by a call that began at `start`
abbrev pub start_in : {A : Type 0} → Positions → Result A Refused → Positions
start_in start (Ok a) = start
start_in start (Err e) = e.start
