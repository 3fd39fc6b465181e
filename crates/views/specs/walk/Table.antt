-- Views as numbers in a table. An added call: docs/DECISIONS.md.
use Rattle.std.specs.Prelude.{List, [], ◌∷◌, ◌++◌, ℕ, zero, suc}
use Rattle.ask.specs.Ask.{Answer, refused, accepted}
use Rattle.parser.specs.Frame.{View}

-- a view as two numbers, the same that the call for one stream hands out: offset and length, 0 and 0 where it is refused
abbrev pub numbers_of : Answer View → List ℕ
numbers_of (refused n) = 0 ∷ 0 ∷ []
numbers_of (accepted v) = v.offset ∷ v.size ∷ []

-- the views of slices 0 to n - 1
unfoldable pub views_of : (ℕ → Answer View) → ℕ → List ℕ
views_of view zero = []
views_of view (suc n) = views_of view n ++ numbers_of (view n)
