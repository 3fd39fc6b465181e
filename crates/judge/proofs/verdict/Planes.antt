-- A reading call on one plane: what the questions leave to the judge, and the number by his verdict.
use mathlib.Core.Path.{◌≡◌, refl, sym, ◌∙◌}
use mathlib.Core.Bool.{Bool, true, false}
use mathlib.Core.List.{List, []}
use Prim.Native.Nat.{ℕ, ◌/◌, ◌^◌, ◌≤◌, ◌<◌}
use native.Mathlib.Omega.{arith}
use Rattle.ask.specs.Ask.{or_else, first_no}
use Rattle.ask.specs.Refusals.{number_of}
use Rattle.ask.specs.declared.refusal.Refusal.{Refusal}
use Rattle.calls.proofs.Told.{some}
use Rattle.ask.specs.Numbers.{no_code}
use Rattle.calls.specs.Arguments.{Depth, Call, PerStream, Buffers, lengths_of}
use Rattle.calls.specs.Views.{plane_call}
use Rattle.calls.specs.declared.Settings.{Settings}
use Rattle.calls.specs.declared.Shape.{Shape}
use Rattle.calls.specs.ReadPlane.{PlaneRead, bad_plane, plane_read, read_plane}
use Rattle.calls.specs.Grid.{blocks_of}
use Rattle.calls.specs.Questions.{reading_questions}
use Rattle.calls.proofs.Legal.{reading_legal}
use Rattle.slice.specs.Calls.{planes_read, by_plane, read_planes, decode}
use Rattle.blockread.specs.On.{good_plane}
use Rattle.judge.specs.Good.{good_planes}
use Rattle.judge.proofs.verdict.Laws.{number_no, number_bad, number_good}

pub one_good : (r : PlaneRead) → good_planes (by_plane r (λ q. planes_read [] q)) ≡ good_plane r
one_good bad_plane = refl
one_good (plane_read b qd qa) = refl

module _ (depth : Depth) (s : Settings) (h : Shape) (samples : List ℕ) (b : Buffers) (at : PerStream) where
  abbrev call : Call
  call = plane_call depth s h samples

  abbrev asked : ℕ → Type 0
  asked n = n ≡ first_no (reading_questions call (lengths_of b) at)

  abbrev numbered : ℕ → Type 0
  numbered n = n ≡ (decode call b at).number

  abbrev read : PlaneRead
  read = read_plane s.shift (blocks_of h.stride) b.dc_bytes b.ac_bytes at.dc at.ac

  pub may_judge : asked 0 → (at.dc < 2 ^ 30) × (at.ac < 2 ^ 30) × (h.stride / 8 ≤ 960)
  may_judge e =
      let l = reading_legal call (lengths_of b) at (sym e) in
      (omega (arith, l.dc_start), omega (arith, l.ac_start), omega (arith, l.legal.planes.0.stride_le))

  pub plane_no : (e : Refusal) → asked (number_of e) → numbered (number_of e)
  plane_no e z = number_no call b at z (some e)

  pub plane_judged : (x : Bool) {r : ℕ} → asked 0 → x ≡ good_plane read → r ≡ or_else x no_code 0 → numbered r
  unfolding read_planes
  plane_judged true e g h = h ∙ number_good call b at e refl (one_good read ∙ sym g)
  plane_judged false e g h = h ∙ number_bad call b at e refl (one_good read ∙ sym g)
