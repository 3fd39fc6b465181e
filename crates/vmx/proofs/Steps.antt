-- What one call does to what it is lent, as a step of the lists of calls: the contract of the call's function itself,
-- whose clauses its export in vmx_c states again. These are definitions; they stand here because a function's contract cannot be named in specs/ of its own crate.
use mathlib.Core.List.{List}
use Prim.Native.Nat.{ℕ}
use contract.Lifetimes.{Lfts}
use denote.Ref.{Bor, MutBor}
use Rattle.calls.specs.Arguments.{Settings, eight, ten, Call, one_plane, one_slice, PerStream, Buffers, settings, plane, rows, buffers, positions}
use Rattle.slice.specs.Calls.{Coded}
use Rattle.outs.specs.plane.Planes.{coded_as}
use Rattle.vmx.proofs.eight.vmx_encode_plane8.Reads as encode-plane8
use Rattle.vmx.proofs.ten.vmx_encode_plane10.Reads as encode-plane10
use Rattle.vmx.proofs.eight.vmx_encode_slice8.Reads as encode-slice8
use Rattle.vmx.proofs.ten.vmx_encode_slice10.Reads as encode-slice10

-- the two buffers and the two positions, as they are lent
pub record Streams : Type 0 where
  pub dc : MutBor (List ℕ)
  pub dc_at : MutBor ℕ
  pub ac : MutBor (List ℕ)
  pub ac_at : MutBor ℕ

abbrev pub bytes_in : Streams → Buffers
bytes_in s = buffers s.dc.now s.ac.now

abbrev pub places_in : Streams → PerStream
places_in s = positions s.dc_at.now s.ac_at.now

-- the rows of a slice's four planes, as they are lent
pub record FourRows : Type 0 where
  pub p0 : Bor (List ℕ)
  pub stride0 : ℕ
  pub p1 : Bor (List ℕ)
  pub stride1 : ℕ
  pub p2 : Bor (List ℕ)
  pub stride2 : ℕ
  pub p3 : Bor (List ℕ)
  pub stride3 : ℕ

abbrev pub slice_of : Settings → ℕ → FourRows → Call
slice_of σ count f = one_slice σ count (rows f.stride0 f.p0.now) (rows f.stride1 f.p1.now) (rows f.stride2 f.p2.now) (rows f.stride3 f.p3.now)

-- ---- the contracts, in the order of their arguments: lifetimes, arguments, what is returned, the lent streams at exit
abbrev pub EncodePlane8 : (κs : Lfts 5) (p : Bor (List ℕ)) (stride place preset shift : ℕ) (s : Streams) (r : ℕ) (s' : Streams) → Type 0
EncodePlane8 κs p stride place preset shift s r s' =
    encode-plane8.Post κs (p, (stride, (place, (preset, (shift, (s.dc, (s.dc_at, (s.ac, (s.ac_at, tt))))))))) r (p, (stride, (place, (preset, (shift, (s'.dc, (s'.dc_at, (s'.ac, (s'.ac_at, tt)))))))))

abbrev pub EncodePlane10 : (κs : Lfts 5) (p : Bor (List ℕ)) (stride place preset shift : ℕ) (s : Streams) (r : ℕ) (s' : Streams) → Type 0
EncodePlane10 κs p stride place preset shift s r s' =
    encode-plane10.Post κs (p, (stride, (place, (preset, (shift, (s.dc, (s.dc_at, (s.ac, (s.ac_at, tt))))))))) r (p, (stride, (place, (preset, (shift, (s'.dc, (s'.dc_at, (s'.ac, (s'.ac_at, tt)))))))))

abbrev pub EncodeSlice8 : (κs : Lfts 8) (f : FourRows) (count preset shift : ℕ) (s : Streams) (r : ℕ) (s' : Streams) → Type 0
EncodeSlice8 κs f count preset shift s r s' =
    encode-slice8.Post κs (f.p0, (f.stride0, (f.p1, (f.stride1, (f.p2, (f.stride2, (f.p3, (f.stride3, (count, (preset, (shift, (s.dc, (s.dc_at, (s.ac, (s.ac_at, tt))))))))))))))) r (f.p0, (f.stride0, (f.p1, (f.stride1, (f.p2, (f.stride2, (f.p3, (f.stride3, (count, (preset, (shift, (s'.dc, (s'.dc_at, (s'.ac, (s'.ac_at, tt)))))))))))))))

abbrev pub EncodeSlice10 : (κs : Lfts 8) (f : FourRows) (count preset shift : ℕ) (s : Streams) (r : ℕ) (s' : Streams) → Type 0
EncodeSlice10 κs f count preset shift s r s' =
    encode-slice10.Post κs (f.p0, (f.stride0, (f.p1, (f.stride1, (f.p2, (f.stride2, (f.p3, (f.stride3, (count, (preset, (shift, (s.dc, (s.dc_at, (s.ac, (s.ac_at, tt))))))))))))))) r (f.p0, (f.stride0, (f.p1, (f.stride1, (f.p2, (f.stride2, (f.p3, (f.stride3, (count, (preset, (shift, (s'.dc, (s'.dc_at, (s'.ac, (s'.ac_at, tt)))))))))))))))

-- ---- the coding calls as steps: the call, bytes and positions before it, and what it answers and leaves
abbrev pub coded : ℕ → Streams → Coded
coded r s' = coded_as r s'.dc_at.now s'.ac_at.now s'.dc.now s'.ac.now

pub data Codes : Call → Buffers → PerStream → Coded → Type 0 where
  codes_plane8 : (κs : Lfts 5) (p : Bor (List ℕ)) (stride place preset shift : ℕ) (s : Streams) (r : ℕ) (s' : Streams)
      → EncodePlane8 κs p stride place preset shift s r s'
      → Codes (one_plane (settings eight preset shift) (plane place stride p.now)) (bytes_in s) (places_in s) (coded r s')
  codes_plane10 : (κs : Lfts 5) (p : Bor (List ℕ)) (stride place preset shift : ℕ) (s : Streams) (r : ℕ) (s' : Streams)
      → EncodePlane10 κs p stride place preset shift s r s'
      → Codes (one_plane (settings ten preset shift) (plane place stride p.now)) (bytes_in s) (places_in s) (coded r s')
  codes_slice8 : (κs : Lfts 8) (f : FourRows) (count preset shift : ℕ) (s : Streams) (r : ℕ) (s' : Streams)
      → EncodeSlice8 κs f count preset shift s r s'
      → Codes (slice_of (settings eight preset shift) count f) (bytes_in s) (places_in s) (coded r s')
  codes_slice10 : (κs : Lfts 8) (f : FourRows) (count preset shift : ℕ) (s : Streams) (r : ℕ) (s' : Streams)
      → EncodeSlice10 κs f count preset shift s r s'
      → Codes (slice_of (settings ten preset shift) count f) (bytes_in s) (places_in s) (coded r s')
