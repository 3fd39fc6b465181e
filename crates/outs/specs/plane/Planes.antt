-- The answers of the calls on planes and slices, out of what a call returns and of what it leaves in the places and buffers that it is
-- lent. Document 01: "A refusal yields the number, the start positions ..; lent memory is unchanged." The number 0 says accepted.
use Rattle.std.specs.Prelude.{List, ℕ}
use Rattle.slice.specs.Calls.{Coded, Decoded}
use Rattle.calls.specs.Previews.{Previewed, Reported}
use Rattle.calls.specs.Arguments.{PerStream, buffers, positions}

-- a coding call: number, both positions, both buffers
abbrev pub coded_as : ℕ → ℕ → ℕ → List ℕ → List ℕ → Coded
coded_as n d a dcs acs = record { number = n; at = positions d a; buffers = buffers dcs acs }

-- a reading call: number, both positions, the rows of each plane lent
abbrev pub decoded_as : ℕ → ℕ → ℕ → List (List ℕ) → Decoded
decoded_as n d a rows = record { number = n; at = positions d a; rows = rows }

-- a preview: number, position, both output rows
abbrev pub previewed_as : ℕ → ℕ → List ℕ → List ℕ → Previewed
previewed_as n d upper lower = record { number = n; at = d; upper = upper; lower = lower }

-- a block report: number, position, the bytes
abbrev pub reported_as : ℕ → ℕ → List ℕ → Reported
reported_as n a report = record { number = n; at = a; report = report }

-- a size call: the places of both lengths, and what goes there
abbrev pub length_places : ℕ → ℕ → PerStream
length_places d a = record { dc = d; ac = a }

abbrev pub length_parts : PerStream → PerStream
length_parts l = l
