-- What blocks add to the two streams of a plane. Document 01, 'Plane and slice' and 'Calls in a row'.
use Rattle.std.specs.Prelude.{◌≡◌, Bool, List, [], ◌∷◌, ◌++◌, map, ℕ, ◌+◌, ◌^◌, ◌≤◌, ◌<◌, ℤ, pos, nat_abs, ◌-ℤ◌, length}
use Rattle.scalar.specs.Tab.{lane}
use Rattle.bits.specs.Bits.{bits_of, run_code, bytes_for, pad_to_byte}
use Rattle.bits.specs.Lay.{lay}
use Rattle.ask.specs.Limits.{shift_max}
use Rattle.calls.specs.Arguments.{PerStream}
use Rattle.calls.specs.Streams.{coded_dc, steps_from, step_code, step_codes, dc_of, with_dc, joined}
use Rattle.bitwriter.specs.Put.{start, Put, Room, LastRoom}
use Rattle.entropy.specs.block.Places.{places_codes, waiting_after, Small}
use Rattle.entropy.specs.declared.plane.PlaneState.{PlaneState}

-- "the prediction starts at 0 in each plane"; no zero waits
abbrev pub start_of : PerStream → PlaneState
start_of at = record { dc = start at.dc; ac = start at.ac; run = 0; pred = pos 0 }

-- the coded DCs of blocks, and all their places, place 0 taken as zero
abbrev pub coded_dcs : ℕ → List (List ℤ) → List ℤ
coded_dcs shift bs = map (coded_dc shift) (map dc_of bs)

abbrev pub places : List (List ℤ) → List ℤ
places bs = joined (map (with_dc (pos 0)) bs)

-- the last of a list, or d
abbrev pub last_of : ℤ → List ℤ → ℤ
last_of d [] = d
last_of d (e ∷ es) = last_of e es

-- a plane in the state s, given the blocks bs, is in the state r; the buffers dc and ac are now dc' and ac'
pub record PlaneCoded (shift : ℕ) (s : PlaneState) (dc ac : List ℕ) (bs : List (List ℤ)) (r : PlaneState) (dc' ac' : List ℕ) : Type 0 where
  pub dc_put : Put s.dc dc (step_codes (steps_from s.pred (coded_dcs shift bs))) r.dc dc'
  pub ac_put : Put s.ac ac (places_codes s.run (places bs)) r.ac ac'
  pub pred_is : r.pred ≡ last_of s.pred (coded_dcs shift bs)
  pub run_is : r.run ≡ waiting_after s.run (places bs)

-- what a block asks: 64 small numbers, and room for its codes
pub record BlockRoom (shift : ℕ) (s : PlaneState) (dc ac : List ℕ) (z : List ℤ) : Type 0 where
  pub shift_le : shift ≤ shift_max
  pub sixty_four : length z ≡ 64
  pub small : Small z
  pub pred_small : nat_abs s.pred ≤ 2048
  pub run_few : s.run + 64 ≤ 2 ^ 17
  pub dc_room : Room s.dc (length (step_code (coded_dc shift (lane z 0) -ℤ s.pred))) dc
  pub ac_room : Room s.ac (length (places_codes s.run (with_dc (pos 0) z))) ac

-- the bits of the AC stream that are not stored yet at the end: those that wait, then the last run
abbrev pub last_bits : PlaneState → List Bool
last_bits s = bits_of s.ac.nbits s.ac.acc ++ run_code s.run

-- what the end asks: room for the last bytes
pub record EndRoom (s : PlaneState) (dc ac : List ℕ) : Type 0 where
  pub run_few : s.run < 2 ^ 31
  pub dc_room : LastRoom s.dc dc
  pub ac_few : s.ac.nbits < 64
  pub ac_low : s.ac.acc < 2 ^ s.ac.nbits
  pub ac_room : s.ac.pos + bytes_for (length (last_bits s)) ≤ length ac

-- both streams, ended at r
pub record Ended (s : PlaneState) (dc ac : List ℕ) (r : PerStream) (dc' ac' : List ℕ) : Type 0 where
  pub dc_bytes_lem : dc' ≡ lay dc s.dc.pos (pad_to_byte (bits_of s.dc.nbits s.dc.acc))
  pub dc_end_lem : r.dc ≡ s.dc.pos + bytes_for s.dc.nbits
  pub ac_bytes_lem : ac' ≡ lay ac s.ac.pos (pad_to_byte (last_bits s))
  pub ac_end_lem : r.ac ≡ s.ac.pos + bytes_for (length (last_bits s))
