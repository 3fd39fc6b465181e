-- What the slice coder asks and does. Document 01, 'Plane and slice' and 'Calls in a row'.
use Rattle.std.specs.Prelude.{◌≡◌, List, ℕ, ◌+◌, ◌≤◌, length}
use Rattle.bits.specs.Lay.{lay}
use Rattle.calls.specs.Arguments.{Settings, Plane, Call, settings_of, planes_of, PerStream, Buffers}
use Rattle.calls.specs.Legal.{LegalSettings, LegalPlane, Every, Which}
use Rattle.slice.specs.Calls.{own_streams}
use Rattle.slice.specs.Room.{room_for_all}

-- what the questions leave of planes in a row: legal settings, legal rows, and room after the positions for all of them
pub record PlanesOk (σ : Settings) (ps : List Plane) (b : Buffers) (at : PerStream) : Type 0 where
  pub settings : LegalSettings σ
  pub planes : Every LegalPlane ps
  pub dc_room : at.dc + (room_for_all σ ps).dc ≤ length b.dc_bytes
  pub ac_room : at.ac + (room_for_all σ ps).ac ≤ length b.ac_bytes

-- the planes' own streams, joined in order, lie in the buffers from the positions on, all else is as before, and r has their ends
pub record PlanesDone (σ : Settings) (ps : List Plane) (b : Buffers) (at r : PerStream) (b' : Buffers) : Type 0 where
  pub dc_bytes_lem : b'.dc_bytes ≡ lay b.dc_bytes at.dc (own_streams σ ps).dc_bytes
  pub dc_end_lem : r.dc ≡ at.dc + length (own_streams σ ps).dc_bytes
  pub ac_bytes_lem : b'.ac_bytes ≡ lay b.ac_bytes at.ac (own_streams σ ps).ac_bytes
  pub ac_end_lem : r.ac ≡ at.ac + length (own_streams σ ps).ac_bytes

-- "a slice stands for its planes in order", 1 to 4 of them
pub record SliceOk (c : Call) (b : Buffers) (at : PerStream) : Type 0 where
  pub which : Which c
  pub planes_ok : PlanesOk (settings_of c) (planes_of c) b at

abbrev pub SliceDone : Call → Buffers → (at r : PerStream) → Buffers → Type 0
SliceDone c b at r b' = PlanesDone (settings_of c) (planes_of c) b at r b'
