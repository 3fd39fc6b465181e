-- One DC code more of a plane.
use mathlib.Core.Path.{◌≡◌, refl, sym, ap, ◌∙◌}
use mathlib.Core.Bool.{true, false}
use Prim.Native.Nat.{ℕ, zero, suc, ◌+◌}
use native.Mathlib.Nat.{suc-add}
use native.Mathlib.Omega.{arith}
use Rattle.ask.specs.Ask.{accepted}
use Rattle.std.specs.Prelude.{Result, Ok, Err, IsOk}
use mathlib.Core.List.{List}
use Rattle.bits.specs.Bits.{Stream, bit_at}
use Rattle.bits.specs.Read.{DcCode, bad_dc, zero_step, step, read_dc}
use Rattle.bitreader.specs.Cursor.{dc_by, NextDc}
use Rattle.bitreader.specs.declared.AcCursor.{AcCursor}
use Rattle.bitreader.specs.declared.Got.{Got}
use Rattle.bitreader.specs.declared.BadCode.{BadCode}
use Rattle.calls.specs.ReadPlane.{DcStep, keep, replace, DcSteps, bad_steps, dc_steps, step_then, by_dc_code, read_steps}
use Rattle.acread.specs.through.Codes.{step_of, good_steps, dc_bit}

never : false ≡ true → ⊥
never e = let z : ◌≡◌ {A = ℕ} 0 1 = cc in omega arith

then_bit : (t : DcStep) (x : DcSteps) → dc_bit (step_then t x) ≡ dc_bit x
then_bit t bad_steps = refl
then_bit t (dc_steps ts q) = refl

then_good : (t : DcStep) (x : DcSteps) → good_steps (step_then t x) ≡ true → good_steps x ≡ true
then_good t bad_steps e = absurd (never e)
then_good t (dc_steps ts q) e = refl

good_then : (t : DcStep) (x : DcSteps) → good_steps x ≡ true → good_steps (step_then t x) ≡ true
good_then t bad_steps e = e
good_then t (dc_steps ts q) e = refl

-- the first n of n + m good codes are good
pub first_good : (n m : ℕ) (s : Stream) (p : ℕ) → good_steps (read_steps (n + m) s p) ≡ true → good_steps (read_steps n s p) ≡ true
unfolding read_steps
first_good zero m s p g = refl
first_good (suc n) m s p g = go (λ q. first_good n m s q) (read_dc s p) (ap (λ (x : ℕ). good_steps (read_steps x s p)) (sym (suc-add n m)) ∙ g)
  where
    go : ((q : ℕ) → good_steps (read_steps (n + m) s q) ≡ true → good_steps (read_steps n s q) ≡ true) → (c : DcCode)
        → good_steps (by_dc_code c (λ q. read_steps (n + m) s q)) ≡ true → good_steps (by_dc_code c (λ q. read_steps n s q)) ≡ true
    go f bad_dc e = e
    go f (zero_step q) e = good_then keep (read_steps n s q) (f q (then_good keep (read_steps (n + m) s q) e))
    go f (step c q) e = good_then (replace c) (read_steps n s q) (f q (then_good (replace c) (read_steps (n + m) s q) e))

-- steps that end alike are good alike
pub good_by : (x y : DcSteps) → dc_bit x ≡ dc_bit y → good_steps x ≡ true → good_steps y ≡ true
good_by bad_steps y e g = absurd (never g)
good_by (dc_steps ts q) bad_steps e g = absurd (let z : ◌≡◌ {A = ℕ} 0 1 = cc in omega arith)
good_by (dc_steps ts q) (dc_steps us r) e g = refl

pub steps_bad : (s : Stream) (n p : ℕ) → bad_dc ≡ read_dc s p → read_steps (suc n) s p ≡ bad_steps
unfolding read_steps
steps_bad s n p e = rw (← e) refl

-- a good stream has a code here
pub some : (s : Stream) (n p : ℕ) → good_steps (read_steps (suc n) s p) ≡ true → bad_dc ≡ read_dc s p → ⊥
some s n p g e = never (sym (ap good_steps (steps_bad s n p e)) ∙ g)

pub code_here : (l : List ℕ) (c : AcCursor) (n : ℕ) → good_steps (read_steps (suc n) (bit_at l) c.pos) ≡ true → (o : Result Got BadCode) → NextDc l c o → IsOk o
code_here l c n g (Err x) b = absurd (some (bit_at l) n c.pos g b.1)
code_here l c n g (Ok x) b = refl

module _ (s : Stream) (n p k h q : ℕ) (e : dc_by k h q ≡ read_dc s p) where
  pub steps_next : read_steps (suc n) s p ≡ step_then (step_of h k) (read_steps n s q)
  unfolding read_steps
  steps_next = go h e
    where
      go : (h : ℕ) → dc_by k h q ≡ read_dc s p → by_dc_code (read_dc s p) (λ a. read_steps n s a) ≡ step_then (step_of h k) (read_steps n s q)
      go zero e = rw (← e) refl
      go (suc h) e = rw (← e) refl

  pub bit_next : dc_bit (read_steps (suc n) s p) ≡ dc_bit (read_steps n s q)
  bit_next = ap dc_bit steps_next ∙ then_bit (step_of h k) (read_steps n s q)

  pub good_next : good_steps (read_steps (suc n) s p) ≡ true → good_steps (read_steps n s q) ≡ true
  good_next g = then_good (step_of h k) (read_steps n s q) (sym (ap good_steps steps_next) ∙ g)

pub none_bit : (s : Stream) (p : ℕ) → dc_bit (read_steps 0 s p) ≡ accepted p
unfolding read_steps
none_bit s p = refl
