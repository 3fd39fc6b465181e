-- Blocks coded one after the other.
use mathlib.Core.Path.{◌≡◌, refl, sym, ap, ◌∙◌, subst}
use mathlib.Core.Bool.{Bool}
use mathlib.Core.List.{List, [], ◌∷◌, ◌++◌}
use Prim.Native.Nat.{ℕ, ◌≤◌}
use lib.IntN.{ℤ, pos, ◌-ℤ◌}
use lib.ListN.{length}
use Rattle.scalar.specs.Tab.{lane}
use Rattle.bits.specs.Bits.{bits_of}
use Rattle.calls.specs.Arguments.{PerStream}
use Rattle.calls.specs.Streams.{coded_dc, steps_from, step_code, step_codes, with_dc}
use Rattle.bitwriter.specs.declared.BitAcc.{BitAcc}
use Rattle.bitwriter.specs.Put.{Put}
use Rattle.bitwriter.proofs.Writer.{wrote_start}
use Rattle.entropy.specs.block.Places.{places_codes, waiting_after}
use Rattle.entropy.proofs.block.Places.{places_split, waiting_split}
use Rattle.entropy.proofs.block.Chain.{put_put}
use Rattle.entropy.specs.plane.Coded.{start_of, coded_dcs, places, last_of, PlaneCoded}
use Rattle.entropy.specs.declared.plane.PlaneState.{PlaneState}
use Rattle.entropy.proofs.plane.Lists.{steps_append, last_append, dcs_append, places_append, places_one, dc_lane, steps_one}

put_as : (a : BitAcc) {o : List ℕ} {x y : List Bool} {b : BitAcc} {p : List ℕ} → x ≡ y → Put a o x b p → Put a o y b p
put_as a {o} {x} {y} {b} {p} e v = subst (λ (l : List Bool). Put a o l b p) e v

-- no block yet
pub coded_start : (shift : ℕ) (dc ac : List ℕ) (at : PerStream) → at.dc ≤ length dc → at.ac ≤ length ac → PlaneCoded shift (start_of at) dc ac [] (start_of at) dc ac
unfolding bits_of step_codes steps_from places_codes waiting_after
coded_start shift dc ac at hd ha = record { dc_put = wrote_start dc at.dc hd; ac_put = wrote_start ac at.ac ha; pred_is = refl; run_is = refl }

-- blocks after blocks
pub coded_more : {shift : ℕ} {s : PlaneState} {dc ac : List ℕ} {xs ys : List (List ℤ)} {r : PlaneState} {dc1 ac1 : List ℕ} {q : PlaneState} {dc2 ac2 : List ℕ}
    → PlaneCoded shift s dc ac xs r dc1 ac1 → PlaneCoded shift r dc1 ac1 ys q dc2 ac2 → PlaneCoded shift s dc ac (xs ++ ys) q dc2 ac2
coded_more {shift} {s} {xs} {ys} {r} f g =
    record {
      dc_put =
          put_as s.dc
          (ap (λ (p : ℤ). step_codes (steps_from s.pred (coded_dcs shift xs)) ++ step_codes (steps_from p (coded_dcs shift ys))) f.pred_is
          ∙ sym (steps_append s.pred (coded_dcs shift xs) (coded_dcs shift ys))
          ∙ ap (λ (l : List ℤ). step_codes (steps_from s.pred l)) (sym (dcs_append shift xs ys)))
          (put_put s.dc (step_codes (steps_from s.pred (coded_dcs shift xs))) (step_codes (steps_from r.pred (coded_dcs shift ys))) f.dc_put g.dc_put);
      ac_put =
          put_as s.ac
          (ap (λ (w : ℕ). places_codes s.run (places xs) ++ places_codes w (places ys)) f.run_is
          ∙ sym (places_split s.run (places xs) (places ys))
          ∙ ap (places_codes s.run) (sym (places_append xs ys)))
          (put_put s.ac (places_codes s.run (places xs)) (places_codes r.run (places ys)) f.ac_put g.ac_put);
      pred_is =
          g.pred_is ∙ ap (λ (p : ℤ). last_of p (coded_dcs shift ys)) f.pred_is ∙ sym (last_append s.pred (coded_dcs shift xs) (coded_dcs shift ys))
          ∙ ap (last_of s.pred) (sym (dcs_append shift xs ys));
      run_is =
          g.run_is ∙ ap (λ (w : ℕ). waiting_after w (places ys)) f.run_is ∙ sym (waiting_split s.run (places xs) (places ys))
          ∙ ap (waiting_after s.run) (sym (places_append xs ys));
    }

-- one block
pub coded_one : {shift : ℕ} {s : PlaneState} {dc ac : List ℕ} (z : List ℤ) {r : PlaneState} {dc1 ac1 : List ℕ}
    → Put s.dc dc (step_code (coded_dc shift (lane z 0) -ℤ s.pred)) r.dc dc1 → Put s.ac ac (places_codes s.run (with_dc (pos 0) z)) r.ac ac1
    → r.pred ≡ coded_dc shift (lane z 0) → r.run ≡ waiting_after s.run (with_dc (pos 0) z) → PlaneCoded shift s dc ac (z ∷ []) r dc1 ac1
coded_one {shift} {s} z f g p w = record {
  dc_put = put_as s.dc (sym (steps_one shift s.pred z)) f;
  ac_put = put_as s.ac (ap (places_codes s.run) (sym (places_one z))) g;
  pred_is = p ∙ ap (coded_dc shift) (sym (dc_lane z));
  run_is = w ∙ ap (waiting_after s.run) (sym (places_one z));
}
