-- What an answer of the size calls says: document 01's number, or the lengths.
use Rattle.std.specs.Prelude.{Result}
use Rattle.ask.specs.Ask.{Answer}
use Rattle.ask.specs.Refusals.{answer}
use Rattle.ask.specs.declared.refusal.Refusal.{Refusal}
use Rattle.calls.specs.Arguments.{PerStream}
use Rattle.questions.specs.declared.answers.Lengths.{Lengths}

abbrev pub lengths_said : Lengths → PerStream
lengths_said l = record { dc = l.dc; ac = l.ac }

abbrev pub size_says : Result Lengths Refusal → Answer PerStream
size_says r = answer lengths_said r
