-- What the code's types say, in the definitions' terms. One function for each type.
use Rattle.std.specs.Prelude.{List, ℕ, ◌≡◌, Option, unwrap_or, Result, Ok, Err}
use Rattle.ask.specs.Ask.{Answer, refused, accepted}
use Rattle.ask.specs.Refusals.{number_of}
use Rattle.ask.specs.declared.refusal.Refusal.{Refusal}
use Rattle.builder.specs.Build.{Build, Built, default_shift}
use Rattle.builder.specs.declared.Builder.{Builder}

-- the shift that is written
abbrev pub shift_says : Option ℕ → ℕ
shift_says s = unwrap_or s default_shift

abbrev pub builder_says : Builder → Build
builder_says b = record { ac_turn = b.ac_turn; next = b.next; at = b.at }

-- with the buffer as the call leaves it. A refused call leaves it as it came
abbrev pub HeaderCall : Result Builder Refusal → List ℕ → List ℕ → Answer Built → Type 0
HeaderCall (Ok b) out out' a = a ≡ accepted (record { state = builder_says b; bytes = out' })
HeaderCall (Err e) out out' a = (a ≡ refused (number_of e)) × (out' ≡ out)
