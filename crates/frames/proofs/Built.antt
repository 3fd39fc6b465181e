-- "Reading what was built": the views of the frame that the builder's calls left in the buffer.
use mathlib.Core.Path.{◌≡◌, sym, ap, ◌∙◌}
use mathlib.Core.Bool.{Bool}
use mathlib.Core.List.{List, [], ◌∷◌, ◌++◌, append-nil}
use Prim.Native.Nat.{ℕ, ◌+◌, ◌-◌, ◌≤◌}
use native.Mathlib.Omega.{arith}
use lib.ListN.{length, take, drop, length-append}
use lib.Seq.{length-take-le, take-append_seam, drop_at}
use Rattle.ask.specs.Limits.{shift_max}
use Rattle.ask.specs.Ask.{Answer, refused, accepted, and_then}
use Rattle.bits.specs.Lay.{lay}
use Rattle.layout.specs.Geometry.{slice_count}
use Rattle.parser.specs.Frame.{view_of, bytes_of}
use Rattle.builder.specs.Build.{Build, Built, header_size, header_bytes, count_byte, started}
use Rattle.builder.specs.streams.Put.{all_streams, write_of}
use Rattle.frames.specs.Whole.{build_of, Complete, of_kind, stream_at, frame_in}
use Rattle.frames.proofs.Put.{header_length_lem, after_all, all_at, builds, builds_dc}
use Rattle.frames.proofs.Views.{none, a_slice, view_back}

laid_part : (out : List ℕ) (at : ℕ) (xs : List ℕ) → at ≤ length out → take (length xs) (drop at (lay out at xs)) ≡ xs
unfolding lay
laid_part out at xs h =
    let rest = drop (at + length xs) out in
    ap (take (length xs)) (drop_at (take at out) (xs ++ rest) at (length-take-le at out h)) ∙ take-append_seam xs rest

pub frame_is : (b : Build) (out : List ℕ) (at : ℕ) (xs : List ℕ) → at ≤ length out → b.at ≡ at + length xs → frame_in at (record { state = b; bytes = lay out at xs }) ≡ xs
frame_is b out at xs h e =
    let n : b.at - at ≡ length xs = omega arith in
    ap (λ (k : ℕ). take k (drop at (lay out at xs))) n ∙ laid_part out at xs h

after : (x : Answer Built) (at : ℕ) (read : List ℕ → Answer (List ℕ)) {f : List ℕ} → and_then x (λ b. accepted (frame_in at b)) ≡ accepted f → and_then x (λ b. read (frame_in at b)) ≡ read f
after (refused n) at read e = absurd (cc)
after (accepted b) at read {f} e = let g : frame_in at b ≡ f = cc in ap read g

module _ (w h : ℕ) (interlaced : Bool) (quality shift : ℕ) where
  -- the part of the buffer that the builder's calls put is `write`'s frame
  pub frame_built : (dc ac : List (List ℕ)) (out : List ℕ) (at : ℕ) → shift ≤ shift_max → Complete w h dc ac [] → at + length (write_of h interlaced quality shift dc ac) ≤ length out
      → and_then (build_of w h interlaced quality shift dc ac out at) (λ b. accepted (frame_in at b)) ≡ accepted (write_of h interlaced quality shift dc ac)
  unfolding write_of
  frame_built [] ac out at small p r = absurd (a_slice w h p.size p.dc_all)
  frame_built (s ∷ ss) [] out at small p r =
      let head = header_bytes interlaced quality shift (count_byte h) in
      let x = all_streams (s ∷ ss) in
      let start = started (at + header_size shift) in
      let m : (after_all (slice_count h) start (s ∷ ss)).at ≡ at + length (head ++ (x ++ all_streams [])) =
      all_at (slice_count h) start (s ∷ ss) ∙ omega (arith, header_length_lem interlaced quality shift (count_byte h), length-append head (x ++ all_streams []), length-append x (all_streams []), ap length none) in
      rw (builds_dc w h interlaced quality shift p.size small s ss p.dc_all p.dc_fit out at r)
      (ap accepted (frame_is (after_all (slice_count h) start (s ∷ ss)) out at (head ++ (x ++ all_streams [])) (omega arith) m))
  frame_built (s ∷ ss) (a ∷ rest) out at small p r =
      let head = header_bytes interlaced quality shift (count_byte h) in
      let x = all_streams (s ∷ ss) in
      let y = all_streams (a ∷ rest) in
      let start = started (at + header_size shift) in
      let mid = after_all (slice_count h) start (s ∷ ss) in
      let m : (after_all (slice_count h) mid (a ∷ rest)).at ≡ at + length (head ++ (x ++ y)) =
      all_at (slice_count h) mid (a ∷ rest) ∙ omega (arith, all_at (slice_count h) start (s ∷ ss), header_length_lem interlaced quality shift (count_byte h), length-append head (x ++ y), length-append x y) in
      rw (builds w h interlaced quality shift p.size small s ss p.dc_all p.dc_fit out at a rest p.ac_all p.ac_fit r)
      (ap accepted (frame_is (after_all (slice_count h) mid (a ∷ rest)) out at (head ++ (x ++ y)) (omega arith) m))

  -- header and streams put, then the view of a slice read: the stream that was put, or 14
  pub built_back : (dc ac : List (List ℕ)) (out : List ℕ) (at : ℕ) → shift ≤ shift_max → Complete w h dc ac [] → at + length (write_of h interlaced quality shift dc ac) ≤ length out → (kind : Bool) (slice : ℕ)
      → and_then (build_of w h interlaced quality shift dc ac out at) (λ b. let f = frame_in at b in bytes_of f (view_of w h f kind slice)) ≡ stream_at (of_kind kind dc ac) slice
  built_back dc ac out at small p r kind slice =
      after (build_of w h interlaced quality shift dc ac out at) at (λ (f : List ℕ). bytes_of f (view_of w h f kind slice)) (frame_built dc ac out at small p r)
      ∙ ap (λ (f : List ℕ). bytes_of f (view_of w h f kind slice)) (sym (append-nil (write_of h interlaced quality shift dc ac)))
      ∙ view_back w h interlaced quality shift dc ac [] small p kind slice
