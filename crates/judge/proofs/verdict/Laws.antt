-- The number of a reading call's answer, and what it says: refused by a question, refused for a bad code, accepted.
use mathlib.Core.Path.{◌≡◌, refl, sym, ap, ◌∙◌}
use mathlib.Core.Bool.{true, false}
use mathlib.Core.List.{List}
use Prim.Native.Nat.{ℕ, zero, suc, ◌<◌}
use native.Mathlib.Omega.{arith}
use Rattle.ask.specs.Ask.{first_no}
use Rattle.ask.specs.Numbers.{no_code}
use Rattle.calls.specs.Arguments.{Call, settings_of, planes_lent, planes_of, PerStream, Buffers, lengths_of}
use Rattle.calls.specs.ReadPlane.{BlockRead}
use Rattle.calls.specs.Questions.{reading_questions}
use Rattle.slice.specs.Calls.{PlanesRead, bad_planes, planes_read, read_planes, rows_of, rows_made, decoded_by, decode}
use Rattle.judge.specs.Good.{good_planes}

-- what an answer of 0 says
pub record Passed (c : Call) (b : Buffers) (at : PerStream) : Type 0 where
  pub asked : first_no (reading_questions c (lengths_of b) at) ≡ 0
  pub good : good_planes (read_planes (settings_of c).shift (planes_of c) b at) ≡ true

-- for planes and slices alike
module _ (c : Call) (b : Buffers) (at : PerStream) where
  abbrev number : ℕ
  number = first_no (reading_questions c (lengths_of b) at)

  abbrev got : PlanesRead
  got = read_planes (settings_of c).shift (planes_of c) b at

  -- ---- the number
  no : (m : ℕ) (r : PlanesRead) {n : ℕ} → n ≡ m → 0 < n → n ≡ (decoded_by m c at r).number
  no zero r e h = absurd (omega arith)
  no (suc m) r e h = e

  pub number_no : {n : ℕ} → n ≡ number → 0 < n → n ≡ (decode c b at).number
  unfolding decode
  number_no e h = no number got e h

  bad : (m : ℕ) (r : PlanesRead) → m ≡ 0 → good_planes r ≡ false → no_code ≡ (decoded_by m c at r).number
  bad (suc m) r e g = absurd (omega arith)
  bad zero bad_planes e g = refl
  bad zero (planes_read bs end) e g = absurd (let z : ◌≡◌ {A = ℕ} 0 1 = cc in omega arith)

  pub number_bad : {n : ℕ} → n ≡ number → n ≡ 0 → good_planes got ≡ false → no_code ≡ (decode c b at).number
  unfolding decode
  number_bad e z g = bad number got (sym e ∙ z) g

  fine : (m : ℕ) (r : PlanesRead) → m ≡ 0 → good_planes r ≡ true → 0 ≡ (decoded_by m c at r).number
  fine (suc m) r e g = absurd (omega arith)
  fine zero bad_planes e g = absurd (let z : ◌≡◌ {A = ℕ} 0 1 = cc in omega arith)
  fine zero (planes_read bs end) e g = refl

  pub number_good : {n : ℕ} → n ≡ number → n ≡ 0 → good_planes got ≡ true → 0 ≡ (decode c b at).number
  unfolding decode
  number_good e z g = fine number got (sym e ∙ z) g

  -- ---- the answer by its number
  refused_by : (m : ℕ) (r : PlanesRead) {n : ℕ} → n ≡ (decoded_by m c at r).number → 0 < n → record { number = n; at = at; rows = rows_of (planes_lent c) } ≡ decoded_by m c at r
  refused_by (suc m) r e h = ap (λ (k : ℕ). record { number = k; at = at; rows = rows_of (planes_lent c) }) e
  refused_by zero bad_planes e h = ap (λ (k : ℕ). record { number = k; at = at; rows = rows_of (planes_lent c) }) e
  refused_by zero (planes_read bs end) e h = absurd (omega arith)

  pub refused_is : {n : ℕ} → n ≡ (decode c b at).number → 0 < n → record { number = n; at = at; rows = rows_of (planes_lent c) } ≡ decode c b at
  unfolding decode
  refused_is e h = refused_by number got e h

  passed_by : (m : ℕ) (r : PlanesRead) → 0 ≡ (decoded_by m c at r).number → (m ≡ 0) × (good_planes r ≡ true)
  passed_by (suc m) r e = absurd (omega arith)
  passed_by zero bad_planes e = absurd (let z : ◌≡◌ {A = ℕ} 0 no_code = e in omega arith)
  passed_by zero (planes_read bs end) e = (refl, refl)

  pub passed : {n : ℕ} → n ≡ (decode c b at).number → n ≡ 0 → Passed c b at
  unfolding decode
  passed e z = let p = passed_by number got (sym z ∙ e) in record { asked = p.0; good = p.1 }

  pub accepted_is : {bs : List (List BlockRead)} {end : PerStream} {rows : List (List ℕ)} → Passed c b at → got ≡ planes_read bs end → rows ≡ rows_made (settings_of c) (planes_lent c) bs
      → record { number = 0; at = end; rows = rows } ≡ decode c b at
  unfolding decode
  accepted_is {bs} {end} {rows} p g m = rw (p.asked, g) (ap (λ (x : List (List ℕ)). record { number = 0; at = end; rows = x }) m)
