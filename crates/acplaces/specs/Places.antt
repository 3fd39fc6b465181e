-- The 64 places of a block, read into natural order. Document 01, 'Plane and slice'.
use Rattle.std.specs.Prelude.{◌≡◌, Bool, true, false, List, ℕ, ◌+◌, ◌^◌, ◌≤◌, ◌<◌, ℤ, length}
use Rattle.bits.specs.Bits.{bit_at}
use Rattle.quant.specs.Quantise.{scan_of}
use Rattle.calls.specs.ReadPlane.{Places, bad_places, places, read_places}
use Rattle.acplaces.specs.declared.AcGot.{AcGot}

-- no bad code
abbrev pub good_places : Places → Bool
good_places bad_places = false
good_places (places cs q r) = true

-- the places of a block at the bit p, after r zeros, are in nat: at most 64 codes of 112 bits were read
pub record Placed (s : List ℕ) (p r : ℕ) (g : AcGot) (nat : List ℤ) : Type 0 where
  pub answer : read_places 64 (bit_at s) p r ≡ places (scan_of nat) g.at g.pending
  pub near : g.at ≤ p + 7168
  pub few : g.pending < 2 ^ 57
  pub count : length nat ≡ 64
