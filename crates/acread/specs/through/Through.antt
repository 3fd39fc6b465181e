-- What reading a plane's AC stream finds, without the coefficients. Document 01, 'Plane and slice'.
use Rattle.std.specs.Prelude.{Bool, true, false, List, [], map, ℕ, Result}
use Rattle.ask.specs.Ask.{Answer, refused, accepted}
use Rattle.bits.specs.Bits.{bytes_for}
use Rattle.calls.specs.ReadPlane.{Blocks, bad_blocks, blocks}
use Rattle.calls.specs.Previews.{report_byte}
use Rattle.acread.specs.Block.{Ends, bad_ends, ends}
use Rattle.ask.specs.Refusals.{answer}
use Rattle.ask.specs.declared.refusal.Refusal.{Refusal}
use Rattle.ask.specs.Numbers.{no_code}

-- where the blocks read end
abbrev pub block_ends : Blocks → Ends
block_ends bad_blocks = bad_ends
block_ends (blocks bs q r) = ends q r

-- no bad code
abbrev pub good_ends : Ends → Bool
good_ends bad_ends = false
good_ends (ends q r) = true

-- the bytes of the blocks read
abbrev pub reports_of : Blocks → List ℕ
reports_of bad_blocks = []
reports_of (blocks bs q r) = map report_byte bs

-- "hands back the AC position where the plane ended"; question 8
abbrev pub ac_end : Blocks → Answer ℕ
ac_end bad_blocks = refused no_code
ac_end (blocks bs q r) = accepted (bytes_for q)

abbrev pub end_says : Result ℕ Refusal → Answer ℕ
end_says r = answer (λ q. q) r
