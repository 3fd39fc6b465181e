-- What the code's records say, in the definitions' terms. One function for each type.
use Rattle.std.specs.Prelude.{List, ℕ, get_or}
use Rattle.calls.specs.Arguments.{Depth, Settings, settings, Rows, rows, Plane, plane, Call, one_plane, one_slice, PerStream, positions}
use Rattle.calls.specs.declared.Settings as code
use Rattle.calls.specs.declared.Shape.{Shape}
use Rattle.calls.specs.declared.Four.{Four}
use Rattle.calls.specs.declared.Positions.{Positions}
use Rattle.calls.specs.declared.Streams.{Streams}

abbrev pub settings_by : Depth → code.Settings → Settings
settings_by depth s = settings depth s.preset s.shift

abbrev pub plane_by : Shape → List ℕ → Plane
plane_by h samples = plane h.place h.stride samples

-- the stride of plane k of four, and the rows lent for it
abbrev pub stride_by : Four → ℕ → ℕ
stride_by f k = get_or f.strides k 0

abbrev pub rows_by : Four → ℕ → List ℕ → Rows
rows_by f k samples = rows (stride_by f k) samples

abbrev pub positions_by : Positions → PerStream
positions_by at = positions at.dc at.ac

-- both streams' lengths, and where the call starts in them
abbrev pub lengths_by : Streams → PerStream
lengths_by s = positions s.dc.len s.ac.len

abbrev pub starts_by : Streams → PerStream
starts_by s = positions s.dc.at s.ac.at

abbrev pub plane_call : Depth → code.Settings → Shape → List ℕ → Call
plane_call depth s h samples = one_plane (settings_by depth s) (plane_by h samples)

abbrev pub slice_call : Depth → code.Settings → Four → (p0 p1 p2 p3 : List ℕ) → Call
slice_call depth s f p0 p1 p2 p3 = one_slice (settings_by depth s) f.count (rows_by f 0 p0) (rows_by f 1 p1) (rows_by f 2 p2) (rows_by f 3 p3)
