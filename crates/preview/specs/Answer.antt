-- What a preview answers. Document 01, 'Plane and slice', 'Preview'.
use Rattle.std.specs.Prelude.{◌≡◌, List, ℕ, Result, Ok, Err, length}
use Rattle.ask.specs.Ask.{first_no}
use Rattle.calls.specs.Questions.{preview_questions}
use Rattle.calls.specs.Previews.{Previewed}
use Rattle.calls.specs.Told.{Told, refusal, acceptance, told}
use Rattle.calls.specs.declared.Shape.{Shape}
use Rattle.calls.specs.declared.Stream.{Stream}
use Rattle.ask.specs.Refusals.{number_of}
use Rattle.ask.specs.declared.refusal.Refusal.{Refusal}

-- the number of the first "no" to a preview whose two outputs have room for so many bytes, whatever they are
abbrev pub PreviewNumber : ℕ → Shape → ℕ → ℕ → Stream → ℕ → Type 0
PreviewNumber shift h over under dc r =
    (upper lower : List ℕ) → length upper ≡ over → length lower ≡ under
    → r ≡ first_no (preview_questions shift h.place h.stride upper lower dc.len dc.at)

-- number, position and rows of an answer to a call that started at `at`: a refusal hands the start back
abbrev pub preview_says : ℕ → Result ℕ Refusal → List ℕ → List ℕ → Told Previewed
preview_says at (Ok q) upper lower = acceptance (record { number = 0; at = q; upper = upper; lower = lower })
preview_says at (Err e) upper lower = refusal (record { number = number_of e; at = at; upper = upper; lower = lower })

abbrev pub preview_told : Previewed → Told Previewed
preview_told k = told k.number k
