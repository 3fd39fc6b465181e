-- Where the DC codes read end: at their start or after it, and not far. B is what holds at a bad code: anything where one may stand, ⊥ where none does.
use mathlib.Core.Path.{◌≡◌, refl}
use mathlib.Core.Bool.{true}
use mathlib.Core.List.{List}
use Prim.Native.Nat.{ℕ, zero, suc, ◌+◌, ◌*◌, ◌≤◌, ◌<◌}
use native.Mathlib.Omega.{arith}
use lib.ListN.{drop, get_or}
use Rattle.bits.specs.Bits.{Stream, bit_at}
use Rattle.bits.specs.Read.{DcCode, bad_dc, zero_step, step, read_dc}
use Rattle.bitreader.specs.scan.Six.{no_six_zeros}
use Rattle.bitreader.proofs.scan.Codes.{DcTo, no_dc}
use Rattle.calls.specs.ReadPlane.{DcStep, keep, replace, DcSteps, bad_steps, dc_steps, step_then, by_dc_code, read_steps}
use Rattle.acread.specs.through.Codes.{good_steps}

abbrev pub StepsTo : Type 0 → ℕ → ℕ → DcSteps → Type 0
StepsTo B a b bad_steps = B
StepsTo B a b (dc_steps ts q) = (a ≤ q) × (q ≤ b)

module _ (B : Type 0) (a b a' b' : ℕ) (lower : a' ≤ a) (upper : b ≤ b') where
  then_step : (t : DcStep) (x : DcSteps) → StepsTo B a b x → StepsTo B a' b' (step_then t x)
  then_step t bad_steps h = h
  then_step t (dc_steps ts q) h = (omega arith, omega arith)

-- from the bit m on every code ends so
module _ (B : Type 0) (s : Stream) (m : ℕ) (code : (p : ℕ) → m ≤ p → DcTo B p (p + 112) (read_dc s p)) where
  by_code : (p n : ℕ) (next : ℕ → DcSteps) (x : DcCode) → DcTo B p (p + 112) x → ((q : ℕ) → p ≤ q → StepsTo B q (q + 112 * n) (next q)) → StepsTo B p (p + 112 * suc n) (by_dc_code x next)
  by_code p n next bad_dc e f = e
  by_code p n next (zero_step q) e f = then_step B q (q + 112 * n) p (p + 112 * suc n) (omega arith) (omega arith) keep (next q) (f q e.0)
  by_code p n next (step c q) e f = then_step B q (q + 112 * n) p (p + 112 * suc n) (omega arith) (omega arith) (replace c) (next q) (f q e.0)

  pub steps_to : (n p : ℕ) → m ≤ p → StepsTo B p (p + 112 * n) (read_steps n s p)
  unfolding read_steps
  steps_to zero p h = (omega arith, omega arith)
  steps_to (suc n) p h = by_code p n (λ q. read_steps n s q) (read_dc s p) (code p h) (λ q g. steps_to n q (omega arith))

-- where no six zero bytes stand in a row from the byte `at` on, no code read from there on is bad
pub clean_steps : (l : List ℕ) → ((j : ℕ) → get_or l j 0 < 256) → (at : ℕ) → no_six_zeros (drop at l) ≡ true → (n : ℕ) → good_steps (read_steps n (bit_at l) (8 * at)) ≡ true
clean_steps l bytes at clean n = good (read_steps n (bit_at l) (8 * at)) (steps_to ⊥ (bit_at l) (8 * at) (no_dc l bytes at clean) n (8 * at) (omega arith))
  where
    good : (x : DcSteps) → StepsTo ⊥ (8 * at) (8 * at + 112 * n) x → good_steps x ≡ true
    good bad_steps h = absurd h
    good (dc_steps ts q) h = refl
