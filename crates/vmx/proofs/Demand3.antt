-- Demand 3, whole: of the coding and reading functions, by their own contracts, which their exports in vmx_c state again. The claim is crates/slice/specs/Demand3.antt.
use mathlib.Core.Path.{◌≡◌}
use Rattle.calls.specs.Arguments.{Call, PerStream, Buffers}
use Rattle.slice.specs.Calls.{Decoded, decode}
use Rattle.slice.specs.Demand3.{Demand3}
use Rattle.vmx.proofs.Steps.{Codes}
use Rattle.vmx.proofs.ReadSteps.{Reads, reads_plane8, reads_plane10, reads_slice8, reads_slice10}
use Rattle.vmx.proofs.CodingLists.{with_reading}

-- each call does what the definition says
pub reads_so : (c : Call) (b : Buffers) (at : PerStream) (r : Decoded) → Reads c b at r → r ≡ decode c b at
reads_so c b at r (reads_plane8 κs p stride place preset shift s n p' s' post) = post
reads_so c b at r (reads_plane10 κs p stride place preset shift s n p' s' post) = post
reads_so c b at r (reads_slice8 κs f count preset shift s n f' s' post) = post
reads_so c b at r (reads_slice10 κs f count preset shift s n f' s' post) = post

pub demand3 : Demand3 Codes Reads
demand3 = with_reading Reads reads_so
