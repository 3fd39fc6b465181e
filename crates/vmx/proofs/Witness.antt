-- Demand 3 says something of the calls' functions: four 10-bit planes that they code are read back by them, with bytes appended to both
-- streams and refused calls between. The lists are those of crates/slice/proofs/examples/WitnessTen.antt.
use mathlib.Core.Path.{subst}
use Rattle.calls.specs.Arguments.{Buffers}
use Rattle.slice.specs.Demand3.{planes, read_from, ReadingHalf}
use Rattle.slice.proofs.Runs.{encode_all, decode_all}
use Rattle.slice.proofs.examples.WitnessTen.{σ, calls, readings, buffers, starts, appended, streams, one_setting, joined, follows_joined}
use Rattle.vmx.proofs.Demand3.{demand3}
use Rattle.vmx.proofs.Runs.{coding_runs, reading_runs}

shown : ReadingHalf σ (planes calls buffers starts) readings streams starts (decode_all readings streams starts)
shown =
    subst (λ (b : Buffers). ReadingHalf σ (planes calls buffers starts) readings b starts (decode_all readings b starts)) joined
    (demand3.reading calls buffers starts (encode_all calls buffers starts) (coding_runs calls buffers starts) σ one_setting appended readings
    (decode_all readings (read_from (encode_all calls buffers starts) appended) starts)
    (reading_runs readings (read_from (encode_all calls buffers starts) appended) starts)
    follows_joined)
