-- What each call on planes and slices answers, and what lent memory holds when it returns. Document 01, 'Plane and slice', 'Preview'.
-- "A refusal yields the number, the start positions; lent memory is unchanged." The number 0 says that a call was accepted.
use Rattle.std.specs.Prelude.{List, [], ◌∷◌, ◌++◌, ℕ, zero, suc}
use Rattle.bits.specs.Lay.{lay}
use Rattle.ask.specs.Ask.{first_no}
use Rattle.calls.specs.Arguments.{Settings, Rows, Plane, Call, one_plane, one_slice, settings_of, planes_lent, planes_of, PerStream, Buffers, lengths_of}
use Rattle.calls.specs.Streams.{dc_stream, ac_stream}
use Rattle.calls.specs.ReadPlane.{BlockRead, PlaneRead, bad_plane, plane_read, read_plane}
use Rattle.calls.specs.Grid.{blocks_of}
use Rattle.slice.specs.Plane.{coefficients, reconstruct}
use Rattle.calls.specs.Questions.{reading_questions, together}
use Rattle.slice.specs.Room.{coding_questions}
use Rattle.ask.specs.Numbers.{no_code}

-- ---- coding

-- the answer of a coding call: number, positions, both buffers at exit
pub record Coded : Type 0 where
  pub number : ℕ
  pub at : PerStream
  pub buffers : Buffers

-- planes' own streams joined in order
unfoldable pub own_streams : Settings → List Plane → Buffers
own_streams σ [] = record { dc_bytes = []; ac_bytes = [] }
own_streams σ (p ∷ ps) =
    record {
      dc_bytes = dc_stream σ.shift (coefficients σ p) ++ (own_streams σ ps).dc_bytes;
      ac_bytes = ac_stream (coefficients σ p) ++ (own_streams σ ps).ac_bytes;
    }

-- the streams laid into the buffers at the positions
abbrev pub laid_at : Buffers → PerStream → Buffers → Buffers
laid_at b at own = record { dc_bytes = lay b.dc_bytes at.dc own.dc_bytes; ac_bytes = lay b.ac_bytes at.ac own.ac_bytes }

abbrev pub coded_by : ℕ → Buffers → Buffers → PerStream → Coded
coded_by zero own b at = record { number = 0; at = together at (lengths_of own); buffers = laid_at b at own }
coded_by (suc n) own b at = record { number = suc n; at = at; buffers = b }

unfoldable pub encode : Call → Buffers → PerStream → Coded
encode c b at = coded_by (first_no (coding_questions c (lengths_of b) at)) (own_streams (settings_of c) (planes_of c)) b at

abbrev pub encode_plane : Settings → Plane → Buffers → PerStream → Coded
encode_plane σ p b at = encode (one_plane σ p) b at

abbrev pub encode_slice : Settings → ℕ → Rows → Rows → Rows → Rows → Buffers → PerStream → Coded
encode_slice σ n p0 p1 p2 p3 b at = encode (one_slice σ n p0 p1 p2 p3) b at

-- ---- reading

-- planes read one after the other
pub data PlanesRead : Type 0 where
  bad_planes : PlanesRead
  planes_read : List (List BlockRead) → PerStream → PlanesRead

abbrev pub plane_then : List BlockRead → PlanesRead → PlanesRead
plane_then b bad_planes = bad_planes
plane_then b (planes_read bs at) = planes_read (b ∷ bs) at

abbrev pub by_plane : PlaneRead → (PerStream → PlanesRead) → PlanesRead
by_plane bad_plane next = bad_planes
by_plane (plane_read b qd qa) next = plane_then b (next (record { dc = qd; ac = qa }))

unfoldable pub read_planes : ℕ → List Plane → Buffers → PerStream → PlanesRead
read_planes shift [] b at = planes_read [] at
read_planes shift (p ∷ ps) b at =
    by_plane (read_plane shift (blocks_of p.stride) b.dc_bytes b.ac_bytes at.dc at.ac) (λ q. read_planes shift ps b q)

-- the answer of a reading call: number, positions, and the rows of every lent plane at exit
pub record Decoded : Type 0 where
  pub number : ℕ
  pub at : PerStream
  pub rows : List (List ℕ)

abbrev pub rows_of : List Plane → List (List ℕ)
rows_of [] = []
rows_of (p ∷ ps) = p.samples ∷ rows_of ps

-- the rows made from what was read; those of planes that were not read stay
unfoldable pub rows_made : Settings → List Plane → List (List BlockRead) → List (List ℕ)
rows_made σ [] bs = []
rows_made σ (p ∷ ps) [] = rows_of (p ∷ ps)
rows_made σ (p ∷ ps) (b ∷ bs) = reconstruct σ p b ∷ rows_made σ ps bs

abbrev pub decoded_by : ℕ → Call → PerStream → PlanesRead → Decoded
decoded_by (suc n) c at r = record { number = suc n; at = at; rows = rows_of (planes_lent c) }
decoded_by zero c at bad_planes = record { number = no_code; at = at; rows = rows_of (planes_lent c) }
decoded_by zero c at (planes_read bs end) = record { number = 0; at = end; rows = rows_made (settings_of c) (planes_lent c) bs }

unfoldable pub decode : Call → Buffers → PerStream → Decoded
decode c b at = decoded_by (first_no (reading_questions c (lengths_of b) at)) c at (read_planes (settings_of c).shift (planes_of c) b at)

abbrev pub decode_plane : Settings → Plane → Buffers → PerStream → Decoded
decode_plane σ p b at = decode (one_plane σ p) b at

abbrev pub decode_slice : Settings → ℕ → Rows → Rows → Rows → Rows → Buffers → PerStream → Decoded
decode_slice σ n p0 p1 p2 p3 b at = decode (one_slice σ n p0 p1 p2 p3) b at
