-- What is made of a plane's DC codes. Document 01, 'Plane and slice', 'Preview'.
use Rattle.std.specs.Prelude.{ℕ, List, [], map, replicate, ℤ, pos}
use Rattle.scalar.specs.Scalar.{add_of, sra_of, mod_z}
use Rattle.calls.specs.ReadPlane.{DcStep, DcSteps, bad_steps, dc_steps, predicted}

-- "the DC plus 4, shifted right by 3, plus level 128 or 0 (16-bit sums that wrap), cut to 8 bits and not clamped"
abbrev pub byte_of : ℤ → ℤ → ℕ
byte_of level d = mod_z (add_of (sra_of (add_of d (pos 4)) 3) level) 256

abbrev pub step_list : DcSteps → List DcStep
step_list bad_steps = []
step_list (dc_steps ts q) = ts

-- the bytes of n blocks by their DC codes
abbrev pub bytes_from : ℕ → ℤ → ℕ → DcSteps → ℤ → List ℕ
bytes_from shift level n steps before = map (byte_of level) (predicted shift before (step_list steps) (replicate n (pos 0)))
