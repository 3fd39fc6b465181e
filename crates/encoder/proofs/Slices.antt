-- A slice plane by plane: what the next plane asks is there, and what has been coded is the streams of the first planes.
use mathlib.Core.Path.{◌≡◌, refl, sym, subst}
use mathlib.Core.List.{List, [], ◌∷◌, ◌++◌}
use Prim.Native.Nat.{ℕ, zero, suc, ◌+◌, ◌<◌}
use native.Mathlib.Omega.{arith}
use lib.ListN.{take, get_or}
use Rattle.calls.specs.Arguments.{Settings, Plane, plane_at, PerStream, Buffers}
use Rattle.calls.specs.Views.{stride_by, rows_by, plane_by}
use Rattle.calls.specs.declared.Shape.{Shape}
use Rattle.calls.specs.declared.Four.{Four}
use Rattle.encplane.specs.Coding.{PlaneOk, PlaneDone}
use Rattle.encoder.specs.Coding.{PlanesOk}
use Rattle.encoder.proofs.Planes.{SoFar, next_ok, one_more, first_ok}

-- the four planes, by the samples of each
abbrev pub lent : Four → (q0 q1 q2 q3 : List ℕ) → List Plane
lent f q0 q1 q2 q3 = plane_at 0 (rows_by f 0 q0) ∷ plane_at 1 (rows_by f 1 q1) ∷ plane_at 2 (rows_by f 2 q2) ∷ plane_at 3 (rows_by f 3 q3) ∷ []

-- one plane more, by its index among four lent rows
pub one_longer : {X : Type 0} (samples : X → List ℕ) (f : Four) (p0 p1 p2 p3 d : X) (k : ℕ) (h : Shape) → k < 4 → (h.place ≡ k) × (h.stride ≡ stride_by f k)
    → take (k + 1) (lent f (samples p0) (samples p1) (samples p2) (samples p3))
    ≡ take k (lent f (samples p0) (samples p1) (samples p2) (samples p3)) ++ (plane_by h (samples (get_or (p0 ∷ p1 ∷ p2 ∷ p3 ∷ []) k d)) ∷ [])
one_longer samples f p0 p1 p2 p3 d zero h l s = rw (s.0, s.1)
one_longer samples f p0 p1 p2 p3 d (suc zero) h l s = rw (s.0, s.1)
one_longer samples f p0 p1 p2 p3 d (suc (suc zero)) h l s = rw (s.0, s.1)
one_longer samples f p0 p1 p2 p3 d (suc (suc (suc zero))) h l s = rw (s.0, s.1)
one_longer samples f p0 p1 p2 p3 d (suc (suc (suc (suc k)))) h l s = absurd (omega arith)

-- plane p after the first k of n planes that may be coded
module _ (σ : Settings) (b : Buffers) (at : PerStream) (n : ℕ) (all : List Plane) (ok : PlanesOk σ (take n all) b at) (k : ℕ) (p : Plane) {r : PerStream} {b' : Buffers}
    (h : k < n) (e : take (k + 1) all ≡ take k all ++ (p ∷ [])) (c : SoFar σ b at (take k all) r b') where
  here : PlanesOk σ (take k all ++ (p ∷ [])) b at
  here = subst (λ (ps : List Plane). PlanesOk σ ps b at) e (first_ok σ (k + 1) n all (omega arith) ok)

  pub turn_ok : PlaneOk σ p b' r
  turn_ok = next_ok σ b at (take k all) p here c

  pub turn_done : {r' : PerStream} {b'' : Buffers} → PlaneDone σ p b' r r' b'' → SoFar σ b at (take (k + 1) all) r' b''
  turn_done {r'} {b''} q = subst (λ (ps : List Plane). SoFar σ b at ps r' b'') (sym e) (one_more σ b at (take k all) p here c q)
