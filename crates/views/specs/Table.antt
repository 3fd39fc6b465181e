-- The question about a lent table of views. An added call: docs/DECISIONS.md.
use Rattle.std.specs.Prelude.{List, [], ◌∷◌, ℕ, ◌*◌, leb, length}
use Rattle.ask.specs.Ask.{Answer, Question, ask, asked}
use Rattle.ask.specs.Numbers.{no_rows}
use Rattle.layout.specs.Geometry.{size_question, slice_count}
use Rattle.parser.specs.head.Header.{FrameRead}
use Rattle.parser.specs.Frame.{parse_of}
use Rattle.views.specs.both.Table.{all_views, table_left}

-- question 5: two numbers for each of a slice's two streams
abbrev pub table_question : ℕ → ℕ → Question
table_question h room = ask (leb (4 * slice_count h) room) no_rows

-- question 9, and for a size that has a layout that question; then those about the frame
unfoldable pub tabled_of : ℕ → ℕ → List ℕ → ℕ → Answer FrameRead
tabled_of w h f room = asked (size_question w h ∷ table_question h room ∷ []) (parse_of w h f)

-- what a call leaves: its answer about the frame, and the lent table
pub record Views : Type 0 where
  pub answer : Answer FrameRead
  pub table : List ℕ

abbrev pub views_as : Answer FrameRead → List ℕ → Views
views_as a table = record { answer = a; table = table }

-- an answer about the frame, and with it the table: all views at its beginning, or all of it as it was
abbrev pub with_table : ℕ → ℕ → List ℕ → List ℕ → Answer FrameRead → Views
with_table w h f table a = views_as a (table_left a table (all_views w h f))

abbrev pub all_views_of : ℕ → ℕ → List ℕ → List ℕ → Views
all_views_of w h f table = with_table w h f table (tabled_of w h f (length table))
