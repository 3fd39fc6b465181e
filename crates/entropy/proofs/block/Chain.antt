-- Puts one after the other.
use mathlib.Core.Path.{refl, sym, subst}
use mathlib.Core.Bool.{Bool}
use mathlib.Core.List.{List, [], ◌++◌, append_assoc, append-nil}
use Prim.Native.Nat.{ℕ, ◌+◌, ◌≤◌}
use native.Mathlib.Nat.{add-zero}
use native.Mathlib.Omega.{arith}
use lib.ListN.{length, length-append}
use Rattle.bits.specs.Bits.{bits_of}
use Rattle.bits.specs.ByteRow.{bytes_bits}
use Rattle.bits.proofs.Codes.{length_bits_of}
use Rattle.bits.proofs.LayLaw.{lay_none}
use Rattle.bitwriter.specs.Put.{Wrote, Put, Room}
use Rattle.bitwriter.specs.declared.BitAcc.{BitAcc}
use Rattle.bitwriter.proofs.Writer.{put_chain, wrote_room}

-- nothing is put
pub put_none : {a : BitAcc} {n : ℕ} {o : List ℕ} → Room a n o → Put a o [] a o
unfolding bytes_bits
put_none {a} {n} {o} r = record {
  ws = [];
  small = tt;
  eights = refl;
  bytes = sym (lay_none o a.pos);
  place = sym (add-zero a.pos);
  within = omega (arith, r.room);
  few = r.few;
  low = r.low;
  bits = sym (append-nil (bits_of a.nbits a.acc));
}

pub put_put : (a : BitAcc) {o : List ℕ} {b : BitAcc} {p : List ℕ} {r : BitAcc} {q : List ℕ} (xs ys : List Bool) → Put a o xs b p → Put b p ys r q → Put a o (xs ++ ys) r q
put_put a {o} {b} {p} {r} {q} xs ys f g =
    subst (λ (l : List Bool). Wrote o a.pos l r q) (append_assoc (bits_of a.nbits a.acc) xs ys) (put_chain ys f g)

-- room for n bits more, out of the room for all
pub put_room : {a : BitAcc} {o : List ℕ} {b : BitAcc} {p : List ℕ} (xs : List Bool) (n m : ℕ) → Room a m o → Put a o xs b p → length xs + n ≤ m → Room b n p
put_room {a} xs n m r f h =
    wrote_room n f
    (omega (arith, r.room, length-append (bits_of a.nbits a.acc) xs, length_bits_of a.nbits a.acc))
