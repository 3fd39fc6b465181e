-- A reading call on one plane: what the verdict leaves, and its answer.
use mathlib.Core.Path.{◌≡◌, refl, sym, ap, ◌∙◌}
use mathlib.Core.List.{List, [], ◌∷◌}
use Prim.Native.Nat.{ℕ, ◌<◌}
use native.Mathlib.Omega.{arith}
use Rattle.calls.specs.Arguments.{Settings, Plane, Call, one_plane, PerStream, Buffers, lengths_of}
use Rattle.calls.specs.ReadPlane.{PlaneRead}
use Rattle.calls.proofs.Legal.{reading_legal}
use Rattle.calls.specs.Told.{refusal, acceptance}
use Rattle.calls.proofs.Told.{told_refused, told_accepted}
use Rattle.slice.specs.Calls.{planes_read, by_plane, read_planes, rows_made, Decoded, decode}
use Rattle.questions.specs.answers.Read.{read_told}
use Rattle.judge.proofs.verdict.Laws.{passed, refused_is, accepted_is}
use Rattle.judge.proofs.verdict.Planes.{one_good}
use Rattle.decplane.specs.Storing.{plane_in, PlaneGood, PlaneStored}

module _ (σ : Settings) (p : Plane) (b : Buffers) (at : PerStream) where
  abbrev call : Call
  call = one_plane σ p

  module _ {n : ℕ} (e : n ≡ (decode call b at).number) where
    pub may_store : n ≡ 0 → PlaneGood σ p b at
    unfolding read_planes
    may_store z =
        let q = passed call b at e z in
        let l = reading_legal call (lengths_of b) at q.asked in
        record {
          settings = l.legal.settings;
          plane = l.legal.planes.0;
          dc_start = omega (arith, l.dc_start);
          ac_start = omega (arith, l.ac_start);
          good = sym (one_good (plane_in σ p b at)) ∙ q.good;
        }

    pub plane_refused : 0 < n → refusal (record { number = n; at = at; rows = p.samples ∷ [] }) ≡ read_told (decode call b at)
    plane_refused h = told_refused (λ (k : Decoded). k.number) (refused_is call b at e h) h

    pub plane_accepted : {end : PerStream} {rows : List ℕ} → n ≡ 0 → PlaneStored σ p b at end rows → acceptance (record { number = 0; at = end; rows = rows ∷ [] }) ≡ read_told (decode call b at)
    unfolding read_planes rows_made
    plane_accepted z s =
        told_accepted (λ (k : Decoded). k.number)
        (accepted_is call b at (passed call b at e z) (ap (λ (x : PlaneRead). by_plane x (λ q. planes_read [] q)) s.ends) (ap (λ (x : List ℕ). x ∷ []) s.stored))
        refl
