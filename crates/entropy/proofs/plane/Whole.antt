-- The two streams of a plane, whole.
use mathlib.Core.Path.{◌≡◌, sym, ap, ap₂, ◌∙◌}
use mathlib.Core.Bool.{Bool}
use mathlib.Core.List.{List, [], ◌++◌, append_assoc, append-nil}
use Prim.Native.Nat.{ℕ, ◌+◌, ◌≤◌}
use native.Mathlib.Omega.{arith}
use lib.IntN.{ℤ, pos}
use lib.ListN.{length, length-append}
use Rattle.bits.specs.Bits.{bits_of, run_code, bytes_for, pad_to_byte}
use Rattle.bits.specs.Lay.{lay}
use Rattle.bits.specs.ByteRow.{bytes_bits}
use Rattle.bits.proofs.Pack.{pad_append}
use Rattle.bits.proofs.PackBack.{length_pad_to_byte}
use Rattle.bits.proofs.Codes.{length_bits_of}
use Rattle.bits.proofs.LayLaw.{lay_lay}
use Rattle.calls.specs.Arguments.{PerStream}
use Rattle.calls.specs.Streams.{steps_from, step_codes, symbol_codes, dc_stream, ac_stream}
use Rattle.bitwriter.specs.declared.BitAcc.{BitAcc}
use Rattle.bitwriter.specs.Put.{Wrote}
use Rattle.bitwriter.proofs.Writer.{wrote_count}
use Rattle.entropy.specs.block.Places.{places_codes}
use Rattle.entropy.proofs.block.Places.{symbols_end}
use Rattle.entropy.specs.plane.Coded.{start_of, coded_dcs, places, PlaneCoded, Ended}
use Rattle.entropy.specs.declared.plane.PlaneState.{PlaneState}

-- what waits, and cs after it, padded and laid at the writer's place: all the bits from the start on
whole_bytes : {o : List ℕ} {p : ℕ} {bs : List Bool} {a : BitAcc} {o1 o2 : List ℕ} (cs : List Bool) → Wrote o p bs a o1
    → o2 ≡ lay o1 a.pos (pad_to_byte (bits_of a.nbits a.acc ++ cs)) → o2 ≡ lay o p (pad_to_byte (bs ++ cs))
whole_bytes {o} {p} {bs} {a} cs w e =
    let h : p ≤ length o = omega (arith, w.place, w.within) in
    let rest = bits_of a.nbits a.acc ++ cs in
    e ∙ ap₂ (λ (l : List ℕ) (i : ℕ). lay l i (pad_to_byte (bits_of a.nbits a.acc ++ cs))) w.bytes w.place
    ∙ lay_lay o p w.ws h (pad_to_byte (bits_of a.nbits a.acc ++ cs))
    ∙ ap (lay o p)
    (sym (pad_append w.ws (bits_of a.nbits a.acc ++ cs) w.small)
    ∙ ap pad_to_byte (sym (append_assoc (bytes_bits w.ws) (bits_of a.nbits a.acc) cs) ∙ ap (λ (l : List Bool). l ++ cs) w.bits))

-- and the end
whole_end : {o : List ℕ} {p : ℕ} {bs : List Bool} {a : BitAcc} {o1 : List ℕ} (cs : List Bool) → Wrote o p bs a o1
    → a.pos + bytes_for (length (bits_of a.nbits a.acc ++ cs)) ≡ p + length (pad_to_byte (bs ++ cs))
whole_end {o} {p} {bs} {a} cs w =
    omega (arith, wrote_count w, length_pad_to_byte (bs ++ cs), length-append bs cs, length-append (bits_of a.nbits a.acc) cs, length_bits_of a.nbits a.acc)

module _ {shift : ℕ} {dc ac : List ℕ} {at : PerStream} {bs : List (List ℤ)} {s : PlaneState} {dc1 ac1 : List ℕ} {r : PerStream} {dc2 ac2 : List ℕ}
    (c : PlaneCoded shift (start_of at) dc ac bs s dc1 ac1) (e : Ended s dc1 ac1 r dc2 ac2) where
  dc_wrote : Wrote dc at.dc (step_codes (steps_from (pos 0) (coded_dcs shift bs))) s.dc dc1
  unfolding bits_of
  dc_wrote = c.dc_put

  ac_wrote : Wrote ac at.ac (places_codes 0 (places bs)) s.ac ac1
  unfolding bits_of
  ac_wrote = c.ac_put

  last_run : places_codes 0 (places bs) ++ run_code s.run ≡ symbol_codes 0 (places bs)
  last_run = ap (λ (w : ℕ). places_codes 0 (places bs) ++ run_code w) c.run_is ∙ sym (symbols_end 0 (places bs))

  pub dc_whole : dc2 ≡ lay dc at.dc (dc_stream shift bs)
  unfolding dc_stream
  dc_whole =
      whole_bytes [] dc_wrote (e.dc_bytes_lem ∙ ap (λ (l : List Bool). lay dc1 s.dc.pos (pad_to_byte l)) (sym (append-nil (bits_of s.dc.nbits s.dc.acc))))
      ∙ ap (λ (l : List Bool). lay dc at.dc (pad_to_byte l)) (append-nil (step_codes (steps_from (pos 0) (coded_dcs shift bs))))

  pub dc_ends : r.dc ≡ at.dc + length (dc_stream shift bs)
  unfolding dc_stream
  dc_ends = e.dc_end_lem ∙ omega (arith, wrote_count dc_wrote, length_pad_to_byte (step_codes (steps_from (pos 0) (coded_dcs shift bs))))

  pub ac_whole : ac2 ≡ lay ac at.ac (ac_stream bs)
  unfolding ac_stream
  ac_whole = whole_bytes (run_code s.run) ac_wrote e.ac_bytes_lem ∙ ap (λ (l : List Bool). lay ac at.ac (pad_to_byte l)) last_run

  pub ac_ends : r.ac ≡ at.ac + length (ac_stream bs)
  unfolding ac_stream
  ac_ends = e.ac_end_lem ∙ whole_end (run_code s.run) ac_wrote ∙ ap (λ (l : List Bool). at.ac + length (pad_to_byte l)) last_run
