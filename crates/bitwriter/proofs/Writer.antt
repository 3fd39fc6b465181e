-- Laws of a writer: how it starts, goes on and ends. A caller's loop carries `Wrote`. Assumes nothing.
use mathlib.Core.Path.{◌≡◌, refl, sym, ap, ap₂, ◌∙◌}
use mathlib.Core.Bool.{Bool}
use mathlib.Core.List.{List, [], ◌++◌, append_assoc}
use Prim.Native.Nat.{ℕ, ◌+◌, ◌*◌, ◌/◌, ◌≤◌}
use native.Mathlib.Nat.{add-zero}
use native.Mathlib.Omega.{arith}
use lib.ListN.{length, length-append}
use Rattle.bits.specs.Bits.{bits_of, bytes_for, pad_to_byte}
use Rattle.bits.specs.Lay.{lay}
use Rattle.bits.specs.ByteRow.{bytes_bits}
use Rattle.bits.proofs.Codes.{length_bits_of}
use Rattle.bits.proofs.Pack.{bytes_append, bits_append, length_bytes, pad_append}
use Rattle.bits.proofs.LayLaw.{lay_none, lay_length, lay_lay}
use Rattle.bitwriter.specs.Put.{start, Wrote, Put, Room, LastRoom, flushed}
use Rattle.bitwriter.specs.declared.BitAcc.{BitAcc}

-- nothing is written yet
pub wrote_start : (o : List ℕ) (p : ℕ) → p ≤ length o → Wrote o p [] (start p) o
unfolding bytes_bits bits_of
wrote_start o p h = record {
  ws = [];
  small = tt;
  eights = refl;
  bytes = sym (lay_none o p);
  place = sym (add-zero p);
  within = h;
  few = omega arith;
  low = omega arith;
  bits = refl;
}

pub wrote_length : {o : List ℕ} {p : ℕ} {bs : List Bool} {a : BitAcc} {o' : List ℕ} → Wrote o p bs a o' → length o' ≡ length o
wrote_length {o} {p} w = ap length w.bytes ∙ lay_length o p w.ws (omega (arith, w.place, w.within))

-- every bit is counted
pub wrote_count : {o : List ℕ} {p : ℕ} {bs : List Bool} {a : BitAcc} {o' : List ℕ} → Wrote o p bs a o' → 8 * a.pos + a.nbits ≡ 8 * p + length bs
wrote_count {o} {p} {bs} {a} w =
    omega (arith, w.place, ap length w.bits, length-append (bytes_bits w.ws) (bits_of a.nbits a.acc), length_bytes w.ws, length_bits_of a.nbits a.acc)

-- bits after bits
pub put_chain : {o : List ℕ} {p : ℕ} {bs : List Bool} {a : BitAcc} {o1 : List ℕ} (cs : List Bool) {r : BitAcc} {o2 : List ℕ} → Wrote o p bs a o1 → Put a o1 cs r o2 → Wrote o p (bs ++ cs) r o2
put_chain {o} {p} {bs} {a} {o1} cs {r} {o2} w v =
    let h : p ≤ length o = omega (arith, w.place, w.within) in
    record {
      ws = w.ws ++ v.ws;
      small = bytes_append w.ws v.ws w.small v.small;
      eights = omega (arith, w.eights, v.eights, length-append w.ws v.ws);
      bytes = v.bytes ∙ ap₂ (λ (l : List ℕ) (i : ℕ). lay l i v.ws) w.bytes w.place ∙ lay_lay o p w.ws h v.ws;
      place = omega (arith, w.place, v.place, length-append w.ws v.ws);
      within = omega (arith, v.within, wrote_length w);
      few = v.few;
      low = v.low;
      bits =
          ap (λ (l : List Bool). l ++ bits_of r.nbits r.acc) (bits_append w.ws v.ws)
          ∙ append_assoc (bytes_bits w.ws) (bytes_bits v.ws) (bits_of r.nbits r.acc)
          ∙ ap (λ (l : List Bool). bytes_bits w.ws ++ l) v.bits
          ∙ sym (append_assoc (bytes_bits w.ws) (bits_of a.nbits a.acc) cs)
          ∙ ap (λ (l : List Bool). l ++ cs) w.bits;
    }

-- room for n bits more, counted from the start
pub wrote_room : {o : List ℕ} {p : ℕ} {bs : List Bool} {a : BitAcc} {o' : List ℕ} (n : ℕ) → Wrote o p bs a o' → p + (length bs + n) / 8 ≤ length o → Room a n o'
wrote_room n w h = record { few = w.few; low = w.low; room = omega (arith, wrote_count w, wrote_length w) }

-- room for the last byte
pub whole_room : {o : List ℕ} {p : ℕ} {bs : List Bool} {a : BitAcc} {o' : List ℕ} → Wrote o p bs a o' → p + bytes_for (length bs) ≤ length o → LastRoom a o'
whole_room w h = record { few = w.few; low = w.low; room = omega (arith, wrote_count w, wrote_length w) }

-- the end: the buffer holds the bits, padded, from the start on, and all else is as before
pub wrote_whole : {o : List ℕ} {p : ℕ} {bs : List Bool} {a : BitAcc} {o1 o2 : List ℕ} → Wrote o p bs a o1
    → o2 ≡ lay o1 a.pos (pad_to_byte (bits_of a.nbits a.acc)) → o2 ≡ lay o p (pad_to_byte bs)
wrote_whole {o} {p} {bs} {a} w e =
    let h : p ≤ length o = omega (arith, w.place, w.within) in
    e ∙ ap₂ (λ (l : List ℕ) (i : ℕ). lay l i (pad_to_byte (bits_of a.nbits a.acc))) w.bytes w.place
    ∙ lay_lay o p w.ws h (pad_to_byte (bits_of a.nbits a.acc))
    ∙ ap (lay o p) (sym (pad_append w.ws (bits_of a.nbits a.acc) w.small) ∙ ap pad_to_byte w.bits)

-- and the place after it
pub whole_place : {o : List ℕ} {p : ℕ} {bs : List Bool} {a : BitAcc} {o' : List ℕ} → Wrote o p bs a o' → flushed a ≡ start (p + bytes_for (length bs))
whole_place {o} {p} {bs} {a} w = let e : a.pos + bytes_for a.nbits ≡ p + bytes_for (length bs) = omega (arith, wrote_count w) in ap start e
