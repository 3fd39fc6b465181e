-- What the storing pass over a plane asks and does. Document 01, 'Plane and slice'.
use Rattle.std.specs.Prelude.{◌≡◌, true, List, [], ℕ, ◌+◌, ◌^◌, ◌≤◌, ◌<◌}
use Rattle.calls.specs.Arguments.{Settings, Plane, PerStream, Buffers}
use Rattle.calls.specs.Legal.{LegalSettings, LegalPlane}
use Rattle.calls.specs.ReadPlane.{BlockRead, PlaneRead, bad_plane, plane_read, read_plane}
use Rattle.calls.specs.Grid.{blocks_of}
use Rattle.slice.specs.Plane.{reconstruct}
use Rattle.blockread.specs.On.{good_plane}

-- what the streams hold of a plane from these positions on
abbrev pub plane_in : Settings → Plane → Buffers → PerStream → PlaneRead
plane_in σ p b at = read_plane σ.shift (blocks_of p.stride) b.dc_bytes b.ac_bytes at.dc at.ac

abbrev pub blocks_got : PlaneRead → List BlockRead
blocks_got bad_plane = []
blocks_got (plane_read bs qd qa) = bs

-- what the questions leave of a plane, and "the streams are read through before any sample is stored"
pub record PlaneGood (σ : Settings) (p : Plane) (b : Buffers) (at : PerStream) : Type 0 where
  pub settings : LegalSettings σ
  pub plane : LegalPlane p
  pub dc_start : at.dc < 2 ^ 30
  pub ac_start : at.ac < 2 ^ 30
  pub good : good_plane (plane_in σ p b at) ≡ true

-- the plane that the streams hold from these positions on is stored in its rows, and `end` has the streams' ends
pub record PlaneStored (σ : Settings) (p : Plane) (b : Buffers) (at end : PerStream) (rows : List ℕ) : Type 0 where
  pub ends : plane_in σ p b at ≡ plane_read (blocks_got (plane_in σ p b at)) end.dc end.ac
  pub stored : rows ≡ reconstruct σ p (blocks_got (plane_in σ p b at))
  pub dc_near : end.dc ≤ at.dc + 2 ^ 21
  pub ac_near : end.ac ≤ at.ac + 2 ^ 21
