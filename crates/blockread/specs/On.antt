-- A plane's blocks, read one by one. Document 01, 'Plane and slice'.
use Rattle.std.specs.Prelude.{◌≡◌, ℕ, suc, ◌+◌, ◌*◌, ◌^◌, ◌<◌, ◌≤◌, Bool, true, false, not, List, ◌∷◌, length, ℤ, pos, FitsSigned}
use Rattle.std.specs.Int.{w16}
use Rattle.bits.specs.Bits.{bit_at, bytes_for}
use Rattle.bitreader.specs.Cursor.{At}
use Rattle.quant.specs.Quantise.{scan_of}
use Rattle.calls.specs.Arguments.{PerStream}
use Rattle.calls.specs.ReadPlane.{BlockRead, Blocks, bad_blocks, blocks, read_blocks, DcSteps, bad_steps, dc_steps, read_steps, predicted, ac_dcs, with_dcs, PlaneRead, bad_plane, plane_read}
use Rattle.blockread.specs.declared.Stand.{Stand}
use Rattle.blockread.specs.declared.BlockGot.{BlockGot}

-- both streams, after a block whose DC was `before`
abbrev pub on_streams : ℕ → ℤ → DcSteps → Blocks → PlaneRead
on_streams shift before bad_steps bs = bad_plane
on_streams shift before (dc_steps ts qd) bad_blocks = bad_plane
on_streams shift before (dc_steps ts qd) (blocks bs qa r) = plane_read (with_dcs (predicted shift before ts (ac_dcs bs)) bs) (bytes_for qd) (bytes_for qa)

-- n blocks from where a plane's reading stands
unfoldable pub read_on : ℕ → ℕ → List ℕ → List ℕ → Stand → PlaneRead
read_on shift n dc ac s = on_streams shift s.last (read_steps n (bit_at dc) s.dc.pos) (read_blocks n (bit_at ac) s.ac s.pending)

-- no bad code
abbrev pub good_plane : PlaneRead → Bool
good_plane bad_plane = false
good_plane (plane_read bs qd qa) = true

abbrev pub block_first : BlockRead → PlaneRead → PlaneRead
block_first b bad_plane = bad_plane
block_first b (plane_read bs qd qa) = plane_read (b ∷ bs) qd qa

-- the block that was got; nat has its coefficients in natural order
abbrev pub block_of : BlockGot → BlockRead
block_of g = record { symbol_read = not g.flat; coeffs = scan_of g.nat }

-- the cursor holds bits of the DC stream, and the zeros still to come are few enough to count on
pub record Ready (dc : List ℕ) (s : Stand) : Type 0 where
  pub dc_holds : At dc s.dc
  pub few : s.pending < 2 ^ 57
  pub fits : FitsSigned w16 s.last

-- a plane's start: both streams at these positions, no zeros to come, and "the prediction starts at 0 in each plane"
pub record Begun (dc : List ℕ) (at : PerStream) (s : Stand) : Type 0 where
  pub ready : Ready dc s
  pub dc_at_lem : s.dc.pos ≡ 8 * at.dc
  pub ac_at_lem : s.ac ≡ 8 * at.ac
  pub none_pending : s.pending ≡ 0
  pub none_before : s.last ≡ pos 0

-- the first of suc n blocks was read, however many follow
pub record NextBlock (shift : ℕ) (dc ac : List ℕ) (s : Stand) (g : BlockGot) : Type 0 where
  pub first : (n : ℕ) → read_on shift (suc n) dc ac s ≡ block_first (block_of g) (read_on shift n dc ac g.next)
  pub ready : Ready dc g.next
  pub dc_near : g.next.dc.pos ≤ s.dc.pos + 112
  pub ac_near : g.next.ac ≤ s.ac + 7168
  pub places : length g.nat ≡ 64
