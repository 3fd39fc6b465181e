-- Answers that the code's enums tell apart. Document 01: "When an answer is an enum, a definition gives this paper's number and values for each
-- of its cases": one value for each case, so that a refusal is no accepted call whatever its number is.
use Rattle.std.specs.Prelude.{ℕ, zero, suc}

-- an answer with its number, positions and lent memory, as that of a call that is refused or accepted
pub data Told (A : Type 0) : Type 0 where
  refusal : A → Told A
  acceptance : A → Told A

-- by the answer's number: 0 is accepted
unfoldable pub told : {A : Type 0} → ℕ → A → Told A
told zero a = acceptance a
told (suc n) a = refusal a

-- the answer alone
abbrev pub content : {A : Type 0} → Told A → A
content (refusal a) = a
content (acceptance a) = a
