-- What a block report answers. Document 01, 'Plane and slice'.
use Rattle.std.specs.Prelude.{◌≡◌, List, ℕ, Result, Ok, Err, length}
use Rattle.ask.specs.Ask.{first_no}
use Rattle.calls.specs.Questions.{report_questions}
use Rattle.calls.specs.Previews.{Reported}
use Rattle.calls.specs.Told.{Told, refusal, acceptance, told}
use Rattle.calls.specs.declared.Stream.{Stream}
use Rattle.ask.specs.Refusals.{number_of}
use Rattle.ask.specs.declared.refusal.Refusal.{Refusal}

-- the number of the first "no" to a report that has room for so many bytes, whatever they are
abbrev pub ReportNumber : ℕ → ℕ → Stream → ℕ → Type 0
ReportNumber stride room ac r = (report : List ℕ) → length report ≡ room → r ≡ first_no (report_questions stride report ac.len ac.at)

-- number, position and report of an answer to a call that started at `at`: a refusal hands the start back
abbrev pub report_says : ℕ → Result ℕ Refusal → List ℕ → Told Reported
report_says at (Ok q) l = acceptance (record { number = 0; at = q; report = l })
report_says at (Err e) l = refusal (record { number = number_of e; at = at; report = l })

abbrev pub report_told : Reported → Told Reported
report_told k = told k.number k
