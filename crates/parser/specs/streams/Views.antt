-- What the code's type says, in the definitions' terms.
use Rattle.std.specs.Prelude.{ℕ, Result}
use Rattle.ask.specs.Ask.{Answer}
use Rattle.ask.specs.Refusals.{answer}
use Rattle.ask.specs.declared.refusal.Refusal.{Refusal}

-- a place in the frame, or a refusal
abbrev pub place_says : Result ℕ Refusal → Answer ℕ
place_says r = answer (λ p. p) r
