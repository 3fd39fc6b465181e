-- Preview, block report and size call: what each answers, and what lent memory holds when it returns. Document 01, 'Plane and slice', 'Preview'.
use Rattle.std.specs.Prelude.{Bool, not, cond, List, [], ◌∷◌, map, ℕ, zero, suc, ◌*◌, ℤ, pos, length, take, drop, replicate}
use Rattle.scalar.specs.Scalar.{add_of, sra_of, mod_z}
use Rattle.bits.specs.Bits.{bit_at, bytes_for}
use Rattle.bits.specs.Lay.{lay}
use Rattle.ask.specs.Ask.{Answer, accepted, first_no, asked}
use Rattle.calls.specs.Arguments.{eight, Plane, PerStream}
use Rattle.calls.specs.ReadPlane.{BlockRead, Blocks, bad_blocks, blocks, read_blocks, DcStep, DcSteps, bad_steps, dc_steps, read_steps, predicted}
use Rattle.calls.specs.Grid.{columns_of, blocks_of, level}
use Rattle.calls.specs.Questions.{preview_questions, report_questions, plane_size_questions, slice_size_questions, lengths_at_most, together}
use Rattle.ask.specs.Numbers.{no_code}

-- ---- preview

-- "the DC plus 4, shifted right by 3, plus level 128 or 0 (16-bit sums that wrap), cut to 8 bits and not clamped"
unfoldable pub preview_byte : ℕ → ℤ → ℕ
preview_byte place d = mod_z (add_of (sra_of (add_of d (pos 4)) 3) (level eight place)) 256

-- the answer: number, position, and both output rows at exit
pub record Previewed : Type 0 where
  pub number : ℕ
  pub at : ℕ
  pub upper : List ℕ
  pub lower : List ℕ

-- "One byte a block, two output rows." No AC is read: place 0 holds 0 before the DC
unfoldable pub preview_bytes : ℕ → ℕ → ℕ → List DcStep → List ℕ
preview_bytes shift place n steps = map (preview_byte place) (predicted shift (pos 0) steps (replicate n (pos 0)))

abbrev pub previewed_by : ℕ → ℕ → ℕ → ℕ → ℕ → List ℕ → List ℕ → DcSteps → Previewed
previewed_by (suc m) shift place stride at upper lower r = record { number = suc m; at = at; upper = upper; lower = lower }
previewed_by zero shift place stride at upper lower bad_steps = record { number = no_code; at = at; upper = upper; lower = lower }
previewed_by zero shift place stride at upper lower (dc_steps ts q) =
    record {
      number = 0;
      at = bytes_for q;
      upper = lay upper 0 (take (columns_of stride) (preview_bytes shift place (blocks_of stride) ts));
      lower = lay lower 0 (drop (columns_of stride) (preview_bytes shift place (blocks_of stride) ts));
    }

unfoldable pub preview : ℕ → ℕ → ℕ → List ℕ → List ℕ → List ℕ → ℕ → Previewed
preview shift place stride upper lower dc at =
    previewed_by (first_no (preview_questions shift place stride upper lower (length dc) at)) shift place stride at upper lower
    (read_steps (blocks_of stride) (bit_at dc) (8 * at))

-- ---- block report

-- "calls a block flat (byte 1, else 0) when no AC symbol was read for it"
abbrev pub report_flat : BlockRead → Bool
report_flat b = not b.symbol_read

abbrev pub report_byte : BlockRead → ℕ
report_byte b = cond (report_flat b) 1 0

pub record Reported : Type 0 where
  pub number : ℕ
  pub at : ℕ
  pub report : List ℕ

abbrev pub reported_by : ℕ → ℕ → List ℕ → Blocks → Reported
reported_by (suc m) at report r = record { number = suc m; at = at; report = report }
reported_by zero at report bad_blocks = record { number = no_code; at = at; report = report }
reported_by zero at report (blocks bs q r) = record { number = 0; at = bytes_for q; report = lay report 0 (map report_byte bs) }

-- "made from a plane's AC stream alone"
unfoldable pub block_report : ℕ → List ℕ → List ℕ → ℕ → Reported
block_report stride report ac at =
    reported_by (first_no (report_questions stride report (length ac) at)) at report (read_blocks (blocks_of stride) (bit_at ac) (8 * at) 0)

-- ---- size

-- "a size call, a length that each stream is at most"
unfoldable pub plane_size : ℕ → Answer PerStream
plane_size stride = asked (plane_size_questions stride) (accepted (lengths_at_most stride))

abbrev pub lengths_of_all : List Plane → PerStream
lengths_of_all [] = record { dc = 0; ac = 0 }
lengths_of_all (p ∷ ps) = together (lengths_at_most p.stride) (lengths_of_all ps)

-- the size call names planes by their strides
abbrev pub of_stride : ℕ → ℕ → Plane
of_stride place stride = record { place = place; stride = stride; samples = [] }

-- the first n of four planes
abbrev pub first_of_four : ℕ → ℕ → ℕ → ℕ → ℕ → List Plane
first_of_four n s0 s1 s2 s3 = take n (of_stride 0 s0 ∷ of_stride 1 s1 ∷ of_stride 2 s2 ∷ of_stride 3 s3 ∷ [])

unfoldable pub slice_size : ℕ → ℕ → ℕ → ℕ → ℕ → Answer PerStream
slice_size n s0 s1 s2 s3 =
    asked (slice_size_questions n (first_of_four n s0 s1 s2 s3)) (accepted (lengths_of_all (first_of_four n s0 s1 s2 s3)))
