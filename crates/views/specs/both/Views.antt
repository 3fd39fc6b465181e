-- What the code's type says, in the definitions' terms.
use Rattle.std.specs.Prelude.{Bool, Result, List, ◌≡◌, ℕ, ◌*◌, ◌≤◌, length, take}
use Rattle.ask.specs.Ask.{Answer, first_no}
use Rattle.ask.specs.Refusals.{answer}
use Rattle.ask.specs.declared.refusal.Refusal.{Refusal}
use Rattle.layout.specs.Geometry.{slice_count}
use Rattle.parser.specs.head.Header.{header_questions, FrameRead, frame_read}
use Rattle.parser.specs.Frame.{parse_of}
use Rattle.views.specs.both.Table.{all_views, table_left}

-- of a frame with a legal header: whether AC streams follow
abbrev pub walked_says : ℕ → List ℕ → Result Bool Refusal → Answer FrameRead
walked_says h f r = answer (λ ac. frame_read h f ac) r

-- such a walk's answer, and the table that it leaves
pub record Tabled (w h : ℕ) (f table left : List ℕ) (a : Answer FrameRead) : Type 0 where
  pub says : a ≡ parse_of w h f
  pub leaves : left ≡ table_left (parse_of w h f) table (all_views w h f)

-- what it asks: every answer about the header is yes, and the table has its numbers
pub record Walkable (w h : ℕ) (f table : List ℕ) : Type 0 where
  pub yes : first_no (header_questions w h f) ≡ 0
  pub room : 4 * slice_count h ≤ length table

-- what is held: the table's numbers, up to those of the last view
pub record TableHeld (h : ℕ) (table held : List ℕ) : Type 0 where
  pub long : 4 * slice_count h ≤ length held
  pub same : take (4 * slice_count h) held ≡ take (4 * slice_count h) table

-- a frame of so many slices, and a table of as many numbers as its views take, have a small place to hold it
abbrev pub small_slices : ℕ
small_slices = 68

abbrev pub small_table : ℕ
small_table = 4 * small_slices
