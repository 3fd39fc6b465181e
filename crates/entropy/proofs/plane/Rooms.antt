-- Room for 4 and 197 bytes a block: every put of quantised blocks fits.
use mathlib.Core.Path.{◌≡◌, refl, ap, ◌∙◌}
use mathlib.Core.Bool.{Bool}
use mathlib.Core.List.{List, [], ◌∷◌, ◌++◌, map}
use Prim.Native.Nat.{ℕ, zero, suc, ◌+◌, ◌*◌, ◌≤◌, ◌<◌}
use native.Mathlib.Omega.{arith}
use lib.IntN.{ℤ, pos, nat_abs, ◌-ℤ◌}
use lib.ListN.{length, length-append}
use Rattle.scalar.specs.Tab.{lane}
use Rattle.bits.specs.Bits.{bits_of, run_code, bytes_for}
use Rattle.bits.proofs.PackBack.{length_pad_to_byte}
use Rattle.bits.proofs.Codes.{length_bits_of}
use Rattle.ask.specs.Limits.{shift_max, dc_block_bytes, ac_block_bytes}
use Rattle.calls.specs.Arguments.{PerStream}
use Rattle.calls.specs.Streams.{coded_dc, steps_from, step_code, step_codes, dc_of, with_dc, symbol_codes, dc_stream, ac_stream}
use Rattle.calls.proofs.Size.{AtMost}
use Rattle.calls.proofs.Fits.{Quantised, AllQuantised, all_append, dcs_at_most, dc_le, ac_le}
use Rattle.calls.proofs.DcNear.{dc_near}
use Rattle.bitwriter.specs.Put.{Wrote, Room}
use Rattle.bitwriter.proofs.Writer.{wrote_room, whole_room, wrote_length, wrote_count}
use Rattle.entropy.specs.block.Places.{places_codes, waiting_after, Small}
use Rattle.entropy.proofs.block.Places.{symbols_end, waiting_le}
use Rattle.entropy.specs.plane.Coded.{start_of, coded_dcs, places, last_of, PlaneCoded, BlockRoom, EndRoom}
use Rattle.entropy.specs.declared.plane.PlaneState.{PlaneState}
use Rattle.entropy.proofs.plane.Lists.{steps_append, dcs_append, places_append, places_one, steps_one}
use Rattle.entropy.proofs.block.Places.{places_split}
use Rattle.entropy.proofs.plane.Blocks.{coded_more}

pub at_most_at : (l : List ℤ) → AtMost 2048 l → Small l
at_most_at [] h i = omega arith
at_most_at (c ∷ l) h zero = h.0
at_most_at (c ∷ l) h (suc i) = at_most_at l h.1 i

-- ---- how many bits, at most
dc_bits : (s : ℕ) (bs : List (List ℤ)) → s ≤ shift_max → AllQuantised bs → bytes_for (length (step_codes (steps_from (pos 0) (coded_dcs s bs)))) ≤ dc_block_bytes * length bs
unfolding dc_stream
dc_bits s bs h q = omega (arith, dc_le bs q s h, length_pad_to_byte (step_codes (steps_from (pos 0) (coded_dcs s bs))))

ac_bits : (bs : List (List ℤ)) → AllQuantised bs → bytes_for (length (places_codes 0 (places bs)) + length (run_code (waiting_after 0 (places bs)))) ≤ ac_block_bytes * length bs
unfolding ac_stream
ac_bits bs q =
    omega (arith, ac_le bs q, length_pad_to_byte (symbol_codes 0 (places bs)), ap length (symbols_end 0 (places bs)), length-append (places_codes 0 (places bs)) (run_code (waiting_after 0 (places bs))))

with_length : (d : ℤ) (z : List ℤ) → length (with_dc d z) ≡ length z
with_length d [] = refl
with_length d (c ∷ z) = refl

places_length : (bs : List (List ℤ)) → AllQuantised bs → length (places bs) ≡ 64 * length bs
places_length [] q = omega arith
places_length (b ∷ bs) q =
    omega (arith, length-append (with_dc (pos 0) b) (places bs), with_length (pos 0) b, q.0.sixty_four, places_length bs q.1)

last_small : (s : ℕ) (d : ℤ) (bs : List (List ℤ)) → s ≤ shift_max → nat_abs d ≤ 2048 → AtMost 2048 (map dc_of bs) → nat_abs (last_of d (coded_dcs s bs)) ≤ 2048
last_small s d [] h hd q = hd
last_small s d (b ∷ bs) h hd q = last_small s (coded_dc s (dc_of b)) bs h (dc_near s (dc_of b) h q.0).small q.1

-- ---- a plane that began at these positions, with room for n blocks, and bs of them coded
pub record Begun (shift : ℕ) (dc ac : List ℕ) (at : PerStream) (n : ℕ) (bs : List (List ℤ)) (s : PlaneState) (dc1 ac1 : List ℕ) : Type 0 where
  pub coded : PlaneCoded shift (start_of at) dc ac bs s dc1 ac1
  pub quantised : AllQuantised bs
  pub shift_le : shift ≤ shift_max
  pub dc_room : at.dc + dc_block_bytes * n ≤ length dc
  pub ac_room : at.ac + ac_block_bytes * n ≤ length ac
  pub few : n ≤ 1920

-- what was written, as bits from the start
dc_wrote : {shift : ℕ} {dc ac : List ℕ} {at : PerStream} {n : ℕ} {bs : List (List ℤ)} {s : PlaneState} {dc1 ac1 : List ℕ} → Begun shift dc ac at n bs s dc1 ac1
    → Wrote dc at.dc (step_codes (steps_from (pos 0) (coded_dcs shift bs))) s.dc dc1
unfolding bits_of
dc_wrote b = b.coded.dc_put

ac_wrote : {shift : ℕ} {dc ac : List ℕ} {at : PerStream} {n : ℕ} {bs : List (List ℤ)} {s : PlaneState} {dc1 ac1 : List ℕ} → Begun shift dc ac at n bs s dc1 ac1
    → Wrote ac at.ac (places_codes 0 (places bs)) s.ac ac1
unfolding bits_of
ac_wrote b = b.coded.ac_put

module _ {shift : ℕ} {dc ac : List ℕ} {at : PerStream} {n : ℕ} {bs : List (List ℤ)} {s : PlaneState} {dc1 ac1 : List ℕ} (b : Begun shift dc ac at n bs s dc1 ac1) where
  -- one block more
  pub block_room : (z : List ℤ) → Quantised z → length bs < n → BlockRoom shift s dc1 ac1 z
  block_room z q l =
      let all = all_append bs (z ∷ []) b.quantised (q, tt) in
      let long : length (bs ++ (z ∷ [])) ≡ length bs + 1 = length-append bs (z ∷ []) in
      let dcs = ap (λ (e : List ℤ). step_codes (steps_from (pos 0) e)) (dcs_append shift bs (z ∷ [])) ∙ steps_append (pos 0) (coded_dcs shift bs) (coded_dcs shift (z ∷ []))
      ∙ ap (λ (l : List Bool). step_codes (steps_from (pos 0) (coded_dcs shift bs)) ++ l) (steps_one shift (last_of (pos 0) (coded_dcs shift bs)) z) in
      let acs = ap (places_codes 0) (places_append bs (z ∷ [])) ∙ places_split 0 (places bs) (places (z ∷ [])) ∙ ap (λ (l : List ℤ). places_codes 0 (places bs) ++ places_codes (waiting_after 0 (places bs)) l) (places_one z) in
      record {
        shift_le = b.shift_le;
        sixty_four = q.sixty_four;
        small = at_most_at z q.at_most;
        pred_small = rw b.coded.pred_is (last_small shift (pos 0) bs b.shift_le (omega arith) (dcs_at_most bs b.quantised));
        run_few = omega (arith, b.coded.run_is, waiting_le 0 (places bs), places_length bs b.quantised, b.few);
        dc_room =
            rw b.coded.pred_is
            (wrote_room (length (step_code (coded_dc shift (lane z 0) -ℤ last_of (pos 0) (coded_dcs shift bs)))) (dc_wrote b)
            (omega (arith, b.dc_room, dc_bits shift (bs ++ (z ∷ [])) b.shift_le all, long, ap length dcs, length-append (step_codes (steps_from (pos 0) (coded_dcs shift bs))) (step_code (coded_dc shift (lane z 0) -ℤ last_of (pos 0) (coded_dcs shift bs))))));
        ac_room =
            rw b.coded.run_is
            (wrote_room (length (places_codes (waiting_after 0 (places bs)) (with_dc (pos 0) z))) (ac_wrote b)
            (omega (arith, b.ac_room, ac_bits (bs ++ (z ∷ [])) all, long, ap length acs, length-append (places_codes 0 (places bs)) (places_codes (waiting_after 0 (places bs)) (with_dc (pos 0) z)))));
      }

  -- all blocks are coded
  pub end_room : length bs ≤ n → EndRoom s dc1 ac1
  end_room l =
      record {
        run_few = omega (arith, b.coded.run_is, waiting_le 0 (places bs), places_length bs b.quantised, b.few);
        dc_room = whole_room (dc_wrote b) (omega (arith, b.dc_room, dc_bits shift bs b.shift_le b.quantised));
        ac_few = (ac_wrote b).few;
        ac_low = (ac_wrote b).low;
        ac_room =
            omega (arith, b.ac_room, ac_bits bs b.quantised, wrote_count (ac_wrote b), wrote_length (ac_wrote b), length-append (bits_of s.ac.nbits s.ac.acc) (run_code s.run), length_bits_of s.ac.nbits s.ac.acc, ap (λ (w : ℕ). length (run_code w)) b.coded.run_is);
      }

  -- a block is coded
  pub begun_next : (z : List ℤ) {r : PlaneState} {dc2 ac2 : List ℕ} → Quantised z → PlaneCoded shift s dc1 ac1 (z ∷ []) r dc2 ac2 → Begun shift dc ac at n (bs ++ (z ∷ [])) r dc2 ac2
  begun_next z q c = record {
    coded = coded_more b.coded c;
    quantised = all_append bs (z ∷ []) b.quantised (q, tt);
    shift_le = b.shift_le;
    dc_room = b.dc_room;
    ac_room = b.ac_room;
    few = b.few;
  }

-- room for the last run
pub run_room : {s : PlaneState} {dc ac : List ℕ} → EndRoom s dc ac → Room s.ac (length (run_code s.run)) ac
run_room {s} e = record {
  few = e.ac_few;
  low = e.ac_low;
  room = omega (arith, e.ac_room, length-append (bits_of s.ac.nbits s.ac.acc) (run_code s.run), length_bits_of s.ac.nbits s.ac.acc);
}
