-- Lists of coding calls: demand 3's coding half, of the calls' functions by their own contracts.
use mathlib.Core.Path.{◌≡◌}
use mathlib.Core.List.{List}
use Rattle.calls.specs.Arguments.{Call, PerStream, Buffers}
use Rattle.slice.specs.Calls.{Coded, encode, Decoded, decode}
use Rattle.slice.specs.CallLists.{CodedAll, Coding}
use Rattle.slice.specs.Demand3.{CodingHalf, Demand3}
use Rattle.slice.proofs.Demand3.{demand3}
use Rattle.vmx.proofs.Steps.{Codes, codes_plane8, codes_plane10, codes_slice8, codes_slice10}

-- each call does what the definition says
pub codes_so : (c : Call) (b : Buffers) (at : PerStream) (r : Coded) → Codes c b at r → r ≡ encode c b at
codes_so c b at r (codes_plane8 κs p stride place preset shift s n s' post) = post
codes_so c b at r (codes_plane10 κs p stride place preset shift s n s' post) = post
codes_so c b at r (codes_slice8 κs f count preset shift s n s' post) = post
codes_so c b at r (codes_slice10 κs f count preset shift s n s' post) = post

-- demand 3 of the coding functions, with any reading calls that do what the definition says
module _ (Reads : Call → Buffers → PerStream → Decoded → Type 0)
    (reads_so : (c : Call) (b : Buffers) (at : PerStream) (r : Decoded) → Reads c b at r → r ≡ decode c b at) where
  pub with_reading : Demand3 Codes Reads
  with_reading = demand3 Codes Reads codes_so reads_so

-- its coding half needs none
pub coding_half : (calls : List Call) (b : Buffers) (starts : PerStream) (k : CodedAll) → Coding Codes calls b starts k → CodingHalf calls b starts k
coding_half = (with_reading (λ c b at r. r ≡ decode c b at) (λ c b at r e. e)).coding
