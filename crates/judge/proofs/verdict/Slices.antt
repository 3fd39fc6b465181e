-- A reading call on a slice: what the questions leave to the judge, and the number by his verdict.
use mathlib.Core.Path.{◌≡◌, refl, sym, ◌∙◌}
use mathlib.Core.Bool.{Bool, true, false}
use mathlib.Core.List.{List, [], ◌∷◌}
use Prim.Native.Nat.{ℕ, zero, suc, ◌^◌, ◌≤◌, ◌<◌}
use native.Mathlib.Omega.{arith}
use lib.ListN.{length, take, get_or}
use Rattle.ask.specs.Ask.{or_else, first_no}
use Rattle.ask.specs.Refusals.{number_of}
use Rattle.ask.specs.declared.refusal.Refusal.{Refusal}
use Rattle.calls.proofs.Told.{some}
use Rattle.ask.specs.Numbers.{no_code}
use Rattle.ask.specs.Limits.{stride_max}
use Rattle.calls.specs.Arguments.{Depth, Plane, Call, planes_lent, planes_of, PerStream, Buffers, lengths_of}
use Rattle.calls.specs.Views.{slice_call}
use Rattle.calls.specs.declared.Settings.{Settings}
use Rattle.calls.specs.declared.Four.{Four}
use Rattle.calls.specs.Legal.{LegalPlane, Every}
use Rattle.calls.specs.Questions.{reading_questions}
use Rattle.calls.proofs.Legal.{reading_legal}
use Rattle.slice.specs.Calls.{read_planes, decode}
use Rattle.judge.specs.Good.{good_planes, strides, first_strides, StridesFit}
use Rattle.judge.proofs.Planes.{first_strides_lem}
use Rattle.judge.proofs.Turns.{one_of}
use Rattle.judge.proofs.verdict.Laws.{number_no, number_bad, number_good}

-- no stride of the first n planes is above the most
most : (n k : ℕ) (ps : List Plane) → k < n → k < length ps → Every LegalPlane (take n ps) → get_or (strides ps) k 0 ≤ stride_max
most zero k ps h g e = absurd (omega arith)
most (suc n) k [] h g e = absurd (omega arith)
most (suc n) zero (p ∷ ps) h g e = e.0.stride_le
most (suc n) (suc k) (p ∷ ps) h g e = most n k ps (omega arith) (omega arith) e.1

-- four planes' rows, and the streams
pub record Given : Type 0 where
  pub depth : Depth
  pub s : Settings
  pub f : Four
  pub p0 : List ℕ
  pub p1 : List ℕ
  pub p2 : List ℕ
  pub p3 : List ℕ
  pub b : Buffers
  pub at : PerStream

module _ (G : Given) where
  abbrev pub call : Call
  call = slice_call G.depth G.s G.f G.p0 G.p1 G.p2 G.p3

  abbrev asked : ℕ → Type 0
  asked n = n ≡ first_no (reading_questions call (lengths_of G.b) G.at)

  abbrev numbered : ℕ → Type 0
  numbered n = n ≡ (decode call G.b G.at).number

  abbrev judged : Bool → Type 0
  judged x = (shift : ℕ) (ps : List Plane) → strides ps ≡ first_strides G.f → x ≡ good_planes (read_planes shift ps G.b G.at)

  verdict : {x : Bool} → judged x → x ≡ good_planes (read_planes G.s.shift (planes_of call) G.b G.at)
  verdict j = j G.s.shift (planes_of call) (first_strides_lem G.f.count (planes_lent call))

  pub may_judge : asked 0 → (G.at.dc < 2 ^ 30) × (G.at.ac < 2 ^ 30) × StridesFit G.f
  may_judge e =
      let l = reading_legal call (lengths_of G.b) G.at (sym e) in (
        omega (arith, l.dc_start),
        omega (arith, l.ac_start),
        (
          l.legal.which.1,
          λ k h.
              let g : k < 4 = omega (arith, h, l.legal.which.1) in
              let m : get_or (strides (planes_lent call)) k 0 ≤ stride_max = most G.f.count k (planes_lent call) h g l.legal.planes in
              omega (arith, m, one_of G.f k g),
        ),
      )

  pub slice_no : (e : Refusal) → asked (number_of e) → numbered (number_of e)
  slice_no e z = number_no call G.b G.at z (some e)

  pub slice_judged : (x : Bool) {r : ℕ} → asked 0 → judged x → r ≡ or_else x no_code 0 → numbered r
  slice_judged true e j h = h ∙ number_good call G.b G.at e refl (sym (verdict j))
  slice_judged false e j h = h ∙ number_bad call G.b G.at e refl (sym (verdict j))
