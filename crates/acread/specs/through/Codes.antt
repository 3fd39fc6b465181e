-- What reading a plane's DC codes finds, without the DCs. Document 01, 'Plane and slice'.
use Rattle.std.specs.Prelude.{Bool, true, false, ℕ, zero, suc}
use Rattle.ask.specs.Ask.{Answer, refused, accepted}
use Rattle.ask.specs.Numbers.{no_code}
use Rattle.bits.specs.Bits.{bytes_for}
use Rattle.calls.specs.ReadPlane.{DcStep, keep, replace, DcSteps, bad_steps, dc_steps}

-- a code by its head bit and its number: "A DC code whose first bit is one is a zero step"
abbrev pub step_of : ℕ → ℕ → DcStep
step_of zero n = replace n
step_of (suc h) n = keep

-- no bad code
abbrev pub good_steps : DcSteps → Bool
good_steps bad_steps = false
good_steps (dc_steps ts q) = true

-- the bit after the codes; question 8
abbrev pub dc_bit : DcSteps → Answer ℕ
dc_bit bad_steps = refused no_code
dc_bit (dc_steps ts q) = accepted q

abbrev pub in_bytes : Answer ℕ → Answer ℕ
in_bytes (refused n) = refused n
in_bytes (accepted q) = accepted (bytes_for q)

abbrev pub dc_end : DcSteps → Answer ℕ
dc_end x = in_bytes (dc_bit x)
