-- What one reading call does to what it is lent, as a step of the lists of calls: the contract of the call's function itself, as in Steps.
use mathlib.Core.List.{List, [], ◌∷◌}
use Prim.Native.Nat.{ℕ}
use contract.Lifetimes.{Lfts}
use denote.Ref.{Bor, MutBor}
use Rattle.calls.specs.Arguments.{Settings, eight, ten, Call, one_plane, one_slice, PerStream, Buffers, settings, plane, rows, buffers, positions}
use Rattle.slice.specs.Calls.{Decoded}
use Rattle.outs.specs.plane.Planes.{decoded_as}
use Rattle.vmx.proofs.eight.vmx_decode_plane8.Reads as decode-plane8
use Rattle.vmx.proofs.ten.vmx_decode_plane10.Reads as decode-plane10
use Rattle.vmx.proofs.eight.vmx_decode_slice8.Reads as decode-slice8
use Rattle.vmx.proofs.ten.vmx_decode_slice10.Reads as decode-slice10

-- the two streams, which are only read, and the two positions, as they are lent
pub record ReadStreams : Type 0 where
  pub dc : Bor (List ℕ)
  pub dc_at : MutBor ℕ
  pub ac : Bor (List ℕ)
  pub ac_at : MutBor ℕ

abbrev pub bytes_in : ReadStreams → Buffers
bytes_in s = buffers s.dc.now s.ac.now

abbrev pub places_in : ReadStreams → PerStream
places_in s = positions s.dc_at.now s.ac_at.now

-- the rows of a slice's four planes, as they are lent to be written
pub record FourOut : Type 0 where
  pub p0 : MutBor (List ℕ)
  pub stride0 : ℕ
  pub p1 : MutBor (List ℕ)
  pub stride1 : ℕ
  pub p2 : MutBor (List ℕ)
  pub stride2 : ℕ
  pub p3 : MutBor (List ℕ)
  pub stride3 : ℕ

abbrev pub slice_of : Settings → ℕ → FourOut → Call
slice_of σ count f = one_slice σ count (rows f.stride0 f.p0.now) (rows f.stride1 f.p1.now) (rows f.stride2 f.p2.now) (rows f.stride3 f.p3.now)

-- ---- the contracts, in the order of their arguments: lifetimes, arguments, what is returned, the lent rows and streams at exit
abbrev pub DecodePlane8 : (κs : Lfts 5) (p : MutBor (List ℕ)) (stride place preset shift : ℕ) (s : ReadStreams) (r : ℕ) (p' : MutBor (List ℕ)) (s' : ReadStreams) → Type 0
DecodePlane8 κs p stride place preset shift s r p' s' =
    decode-plane8.Post κs (p, (stride, (place, (preset, (shift, (s.dc, (s.dc_at, (s.ac, (s.ac_at, tt))))))))) r (p', (stride, (place, (preset, (shift, (s'.dc, (s'.dc_at, (s'.ac, (s'.ac_at, tt)))))))))

abbrev pub DecodePlane10 : (κs : Lfts 5) (p : MutBor (List ℕ)) (stride place preset shift : ℕ) (s : ReadStreams) (r : ℕ) (p' : MutBor (List ℕ)) (s' : ReadStreams) → Type 0
DecodePlane10 κs p stride place preset shift s r p' s' =
    decode-plane10.Post κs (p, (stride, (place, (preset, (shift, (s.dc, (s.dc_at, (s.ac, (s.ac_at, tt))))))))) r (p', (stride, (place, (preset, (shift, (s'.dc, (s'.dc_at, (s'.ac, (s'.ac_at, tt)))))))))

abbrev pub DecodeSlice8 : (κs : Lfts 8) (f : FourOut) (count preset shift : ℕ) (s : ReadStreams) (r : ℕ) (f' : FourOut) (s' : ReadStreams) → Type 0
DecodeSlice8 κs f count preset shift s r f' s' =
    decode-slice8.Post κs (f.p0, (f.stride0, (f.p1, (f.stride1, (f.p2, (f.stride2, (f.p3, (f.stride3, (count, (preset, (shift, (s.dc, (s.dc_at, (s.ac, (s.ac_at, tt))))))))))))))) r (f'.p0, (f.stride0, (f'.p1, (f.stride1, (f'.p2, (f.stride2, (f'.p3, (f.stride3, (count, (preset, (shift, (s'.dc, (s'.dc_at, (s'.ac, (s'.ac_at, tt)))))))))))))))

abbrev pub DecodeSlice10 : (κs : Lfts 8) (f : FourOut) (count preset shift : ℕ) (s : ReadStreams) (r : ℕ) (f' : FourOut) (s' : ReadStreams) → Type 0
DecodeSlice10 κs f count preset shift s r f' s' =
    decode-slice10.Post κs (f.p0, (f.stride0, (f.p1, (f.stride1, (f.p2, (f.stride2, (f.p3, (f.stride3, (count, (preset, (shift, (s.dc, (s.dc_at, (s.ac, (s.ac_at, tt))))))))))))))) r (f'.p0, (f.stride0, (f'.p1, (f.stride1, (f'.p2, (f.stride2, (f'.p3, (f.stride3, (count, (preset, (shift, (s'.dc, (s'.dc_at, (s'.ac, (s'.ac_at, tt)))))))))))))))

-- ---- the reading calls as steps: the call, streams and positions before it, and what it answers and leaves in the rows
abbrev pub plane_rows : MutBor (List ℕ) → List (List ℕ)
plane_rows p = p.now ∷ []

abbrev pub slice_rows : FourOut → List (List ℕ)
slice_rows f = f.p0.now ∷ f.p1.now ∷ f.p2.now ∷ f.p3.now ∷ []

abbrev pub decoded : ℕ → ReadStreams → List (List ℕ) → Decoded
decoded r s' rows = decoded_as r s'.dc_at.now s'.ac_at.now rows

pub data Reads : Call → Buffers → PerStream → Decoded → Type 0 where
  reads_plane8 : (κs : Lfts 5) (p : MutBor (List ℕ)) (stride place preset shift : ℕ) (s : ReadStreams) (r : ℕ) (p' : MutBor (List ℕ)) (s' : ReadStreams)
      → DecodePlane8 κs p stride place preset shift s r p' s'
      → Reads (one_plane (settings eight preset shift) (plane place stride p.now)) (bytes_in s) (places_in s) (decoded r s' (plane_rows p'))
  reads_plane10 : (κs : Lfts 5) (p : MutBor (List ℕ)) (stride place preset shift : ℕ) (s : ReadStreams) (r : ℕ) (p' : MutBor (List ℕ)) (s' : ReadStreams)
      → DecodePlane10 κs p stride place preset shift s r p' s'
      → Reads (one_plane (settings ten preset shift) (plane place stride p.now)) (bytes_in s) (places_in s) (decoded r s' (plane_rows p'))
  reads_slice8 : (κs : Lfts 8) (f : FourOut) (count preset shift : ℕ) (s : ReadStreams) (r : ℕ) (f' : FourOut) (s' : ReadStreams)
      → DecodeSlice8 κs f count preset shift s r f' s'
      → Reads (slice_of (settings eight preset shift) count f) (bytes_in s) (places_in s) (decoded r s' (slice_rows f'))
  reads_slice10 : (κs : Lfts 8) (f : FourOut) (count preset shift : ℕ) (s : ReadStreams) (r : ℕ) (f' : FourOut) (s' : ReadStreams)
      → DecodeSlice10 κs f count preset shift s r f' s'
      → Reads (slice_of (settings ten preset shift) count f) (bytes_in s) (places_in s) (decoded r s' (slice_rows f'))
