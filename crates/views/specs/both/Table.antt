-- The views of all streams of a frame, as a table of numbers. An added call: docs/DECISIONS.md.
use Rattle.std.specs.Prelude.{true, false, List, ◌++◌, ℕ}
use Rattle.bits.specs.Lay.{lay}
use Rattle.ask.specs.Ask.{Answer, refused, accepted}
use Rattle.layout.specs.Geometry.{slice_count}
use Rattle.parser.specs.Frame.{view_of}
use Rattle.views.specs.walk.Table.{views_of}

-- the DC streams of all slices, then the AC streams of all slices
unfoldable pub all_views : ℕ → ℕ → List ℕ → List ℕ
all_views w h f = views_of (view_of w h f false) (slice_count h) ++ views_of (view_of w h f true) (slice_count h)

-- the lent table afterwards: views at its beginning, or all of it as it was
abbrev pub table_left : {A : Type 0} → Answer A → List ℕ → List ℕ → List ℕ
table_left (refused n) table views = table
table_left (accepted a) table views = lay table 0 views
