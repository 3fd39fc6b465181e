-- One DC code more of a plane: its byte.
use Rattle.std.proofs.Common.{◌≡◌, ℕ, suc, true, false, [], ◌∷◌, ℤ, pos, sym, refl, ap, ◌∙◌, arith}
use Rattle.scalar.specs.Scalar.{add_of}
use Rattle.bits.specs.Bits.{Stream}
use Rattle.bits.specs.Read.{read_dc}
use Rattle.bitreader.specs.Cursor.{dc_by}
use Rattle.calls.specs.ReadPlane.{DcStep, DcSteps, bad_steps, dc_steps, step_then, read_steps, settle, predicted}
use Rattle.acread.specs.through.Codes.{step_of, good_steps}
use Rattle.acread.proofs.through.Codes.{steps_next, good_next}
use Rattle.blockread.specs.dc.Steps.{byte_of, bytes_from}

never : false ≡ true → ⊥
never e = let z : ◌≡◌ {A = ℕ} 0 1 = cc in omega arith

then_bytes : (shift : ℕ) (level : ℤ) (n : ℕ) (t : DcStep) (x : DcSteps) (before : ℤ) → good_steps x ≡ true
    → bytes_from shift level (suc n) (step_then t x) before ≡ byte_of level (add_of (settle shift t (pos 0)) before) ∷ bytes_from shift level n x (add_of (settle shift t (pos 0)) before)
unfolding predicted
then_bytes shift level n t bad_steps before g = absurd (never g)
then_bytes shift level n t (dc_steps ts q) before g = refl

pub bytes_next : (shift : ℕ) (level : ℤ) (s : Stream) (n p k h q : ℕ) → dc_by k h q ≡ read_dc s p → good_steps (read_steps (suc n) s p) ≡ true → (before : ℤ) {d : ℤ}
    → d ≡ add_of (settle shift (step_of h k) (pos 0)) before → bytes_from shift level (suc n) (read_steps (suc n) s p) before ≡ byte_of level d ∷ bytes_from shift level n (read_steps n s q) d
bytes_next shift level s n p k h q e g before {d} f =
    ap (λ (x : DcSteps). bytes_from shift level (suc n) x before) (steps_next s n p k h q e)
    ∙ then_bytes shift level n (step_of h k) (read_steps n s q) before (good_next s n p k h q e g)
    ∙ ap (λ (x : ℤ). byte_of level x ∷ bytes_from shift level n (read_steps n s q) x) (sym f)

pub none_bytes : (shift : ℕ) (level : ℤ) (s : Stream) (p : ℕ) (before : ℤ) → bytes_from shift level 0 (read_steps 0 s p) before ≡ []
unfolding read_steps predicted
none_bytes shift level s p before = refl
