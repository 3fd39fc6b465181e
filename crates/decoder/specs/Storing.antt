-- What the storing pass over a slice asks and does. Document 01, 'Plane and slice'.
use Rattle.std.specs.Prelude.{◌≡◌, true, List, [], ℕ, ◌≤◌}
use Rattle.ask.specs.Limits.{start_max}
use Rattle.calls.specs.Arguments.{Call, settings_of, planes_lent, planes_of, PerStream, Buffers}
use Rattle.calls.specs.Legal.{Legal}
use Rattle.calls.specs.ReadPlane.{BlockRead}
use Rattle.slice.specs.Calls.{PlanesRead, bad_planes, planes_read, read_planes, rows_made}
use Rattle.judge.specs.Good.{good_planes}

-- what the streams hold of a call's planes from these positions on
abbrev pub planes_in : Call → Buffers → PerStream → PlanesRead
planes_in c b at = read_planes (settings_of c).shift (planes_of c) b at

abbrev pub planes_got : PlanesRead → List (List BlockRead)
planes_got bad_planes = []
planes_got (planes_read bs at) = bs

-- what the questions leave of a slice, and "the streams are read through before any sample is stored"
pub record SliceGood (c : Call) (b : Buffers) (at : PerStream) : Type 0 where
  pub legal : Legal c
  pub dc_start : at.dc ≤ start_max
  pub ac_start : at.ac ≤ start_max
  pub good : good_planes (planes_in c b at) ≡ true

-- the planes that the streams hold from these positions on are stored in their rows, planes above the count are as before, and `end` has
-- the streams' ends
pub record SliceStored (c : Call) (b : Buffers) (at end : PerStream) (rows : List (List ℕ)) : Type 0 where
  pub ends : planes_in c b at ≡ planes_read (planes_got (planes_in c b at)) end
  pub stored : rows ≡ rows_made (settings_of c) (planes_lent c) (planes_got (planes_in c b at))
