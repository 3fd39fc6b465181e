-- What the plane coder asks and does. Document 01, 'Plane and slice' and 'Calls in a row'.
use Rattle.std.specs.Prelude.{◌≡◌, ◌+◌, ◌≤◌, length}
use Rattle.bits.specs.Lay.{lay}
use Rattle.calls.specs.Arguments.{Settings, Plane, PerStream, Buffers}
use Rattle.calls.specs.Legal.{LegalSettings, LegalPlane}
use Rattle.calls.specs.Streams.{dc_stream, ac_stream}
use Rattle.slice.specs.Plane.{coefficients}
use Rattle.slice.specs.Room.{room_for}

-- what the questions leave of a plane: legal settings, legal rows, and its room after the positions
pub record PlaneOk (σ : Settings) (p : Plane) (b : Buffers) (at : PerStream) : Type 0 where
  pub settings : LegalSettings σ
  pub plane : LegalPlane p
  pub dc_room : at.dc + (room_for σ p).dc ≤ length b.dc_bytes
  pub ac_room : at.ac + (room_for σ p).ac ≤ length b.ac_bytes

-- the plane's own streams lie in the buffers from the positions on, all else is as before, and r has their ends
pub record PlaneDone (σ : Settings) (p : Plane) (b : Buffers) (at r : PerStream) (b' : Buffers) : Type 0 where
  pub dc_bytes_lem : b'.dc_bytes ≡ lay b.dc_bytes at.dc (dc_stream σ.shift (coefficients σ p))
  pub dc_end_lem : r.dc ≡ at.dc + length (dc_stream σ.shift (coefficients σ p))
  pub ac_bytes_lem : b'.ac_bytes ≡ lay b.ac_bytes at.ac (ac_stream (coefficients σ p))
  pub ac_end_lem : r.ac ≡ at.ac + length (ac_stream (coefficients σ p))
