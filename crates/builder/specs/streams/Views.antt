-- What the code's types say, in the definitions' terms.
use Rattle.std.specs.Prelude.{Bool, List, ℕ, ◌≡◌, Result, Ok, Err}
use Rattle.ask.specs.Ask.{Answer, refused, accepted}
use Rattle.ask.specs.Refusals.{number_of, answer}
use Rattle.ask.specs.declared.refusal.Refusal.{Refusal}
use Rattle.builder.specs.Build.{Built}
use Rattle.builder.specs.Views.{builder_says}
use Rattle.builder.specs.declared.Builder.{Builder}
use Rattle.builder.specs.declared.streams.Refused.{Refused}

-- with the buffer as the call leaves it. A refused call leaves it, and the state, as they came
abbrev pub StreamCall : Builder → Result Builder Refused → List ℕ → List ℕ → Answer Built → Type 0
StreamCall b (Ok b') out out' a = a ≡ accepted (record { state = builder_says b'; bytes = out' })
StreamCall b (Err r) out out' a = (a ≡ refused (number_of r.no)) × (out' ≡ out) × (r.state ≡ b)

abbrev pub complete_says : Result Bool Refusal → Answer Bool
complete_says r = answer (λ b. b) r
