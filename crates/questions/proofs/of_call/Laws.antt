-- Laws of the questions by numbers.
use mathlib.Core.Path.{◌≡◌, refl, ap, ◌∙◌}
use mathlib.Core.Bool.{Bool, true, false, ◌&&◌}
use mathlib.Core.List.{List, [], ◌∷◌, map}
use Prim.Native.Nat.{ℕ, zero, suc, ◌+◌, ◌*◌, ◌/◌, ◌≤◌}
use native.Mathlib.Omega.{arith}
use lib.Dec.{leb}
use lib.ListN.{length, take}
use Rattle.ask.specs.Ask.{ask, first_no}
use Rattle.ask.specs.Numbers.{no_plane, no_stride, no_rows, no_room}
use Rattle.ask.specs.Limits.{rows_needed}
use Rattle.calls.specs.Arguments.{Settings, Plane, plane, Call, settings_of, planes_of, PerStream}
use Rattle.calls.specs.Questions.{preset_question, shift_question, which_planes_ok, each, strides_ok, rows_ok, together, fits, coding_starts_question, reading_starts_question, reading_questions}
use Rattle.calls.proofs.Legal.{first_stride, other_strides}
use Rattle.slice.specs.Room.{room_for_all, coding_questions}
use Rattle.questions.specs.four.Firsts.{all_of, sum_of}
use Rattle.questions.specs.order.Order.{room_of, coding_by, reading_by}
use Rattle.questions.specs.of_call.Numbers.{columns_in}

pub and_yes : (b : Bool) → b ≡ b && true
and_yes true = refl
and_yes false = refl

-- ---- over planes

pub each_take : (f : Plane → Bool) (n : ℕ) (ps : List Plane) → all_of (take n (map f ps)) ≡ each f (take n ps)
each_take f zero ps = refl
each_take f (suc n) [] = refl
each_take f (suc n) (p ∷ ps) = ap (λ (b : Bool). f p && b) (each_take f n ps)

pub columns_take : (n : ℕ) (ps : List Plane) → sum_of (take n (map (λ p. p.stride / 8) ps)) ≡ columns_in (take n ps)
columns_take zero ps = refl
columns_take (suc n) [] = refl
columns_take (suc n) (p ∷ ps) = ap (λ (k : ℕ). p.stride / 8 + k) (columns_take n ps)

-- the rows of four planes by their lengths
pub rows_take : (n s0 s1 s2 s3 : ℕ) (p0 p1 p2 p3 : List ℕ) {r0 r1 r2 r3 : ℕ} → length p0 ≡ r0 → length p1 ≡ r1 → length p2 ≡ r2 → length p3 ≡ r3
    → all_of (take n (leb (rows_needed s0) r0 ∷ leb (rows_needed s1) r1 ∷ leb (rows_needed s2) r2 ∷ leb (rows_needed s3) r3 ∷ []))
    ≡ each rows_ok (take n (plane 0 s0 p0 ∷ plane 1 s1 p1 ∷ plane 2 s2 p2 ∷ plane 3 s3 p3 ∷ []))
rows_take n s0 s1 s2 s3 p0 p1 p2 p3 e0 e1 e2 e3 =
    rw (← e0, ← e1, ← e2, ← e3) (each_take rows_ok n (plane 0 s0 p0 ∷ plane 1 s1 p1 ∷ plane 2 s2 p2 ∷ plane 3 s3 p3 ∷ []))

-- how many columns strides that passed can have
pub columns_le : (ps : List Plane) → strides_ok ps ≡ true → columns_in ps ≤ 960 * length ps
columns_le [] e = omega arith
columns_le (p ∷ ps) e = omega (arith, (first_stride p ps e).stride_le, columns_le ps (other_strides p ps e))

room_dc : (σ : Settings) (ps : List Plane) → (room_of (columns_in ps)).dc ≡ (room_for_all σ ps).dc
room_dc σ [] = omega arith
room_dc σ (p ∷ ps) = omega (arith, room_dc σ ps)

room_ac : (σ : Settings) (ps : List Plane) → (room_of (columns_in ps)).ac ≡ (room_for_all σ ps).ac
room_ac σ [] = omega arith
room_ac σ (p ∷ ps) = omega (arith, room_ac σ ps)

pub room_is : (σ : Settings) (ps : List Plane) → room_of (columns_in ps) ≡ room_for_all σ ps
room_is σ ps = λ i. record { dc = room_dc σ ps i; ac = room_ac σ ps i }

-- ---- a call's questions from their answers
module _ (c : Call) (lengths at : PerStream) {which strides rows : Bool} (w : which ≡ which_planes_ok c)
    (s : strides ≡ strides_ok (planes_of c)) (r : rows ≡ each rows_ok (planes_of c)) where
  pub reading_is : first_no (reading_by (settings_of c).preset (settings_of c).shift which strides rows lengths at) ≡ first_no (reading_questions c lengths at)
  unfolding reading_questions
  reading_is =
      λ i. first_no (preset_question (settings_of c).preset ∷ shift_question (settings_of c).shift ∷ ask (w i) no_plane ∷ ask (s i) no_stride ∷ ask (r i) no_rows ∷ reading_starts_question lengths at ∷ [])

  pub coding_is : {columns : ℕ} → columns ≡ columns_in (planes_of c)
      → first_no (coding_by (settings_of c).preset (settings_of c).shift which strides rows columns lengths at) ≡ first_no (coding_questions c lengths at)
  unfolding coding_questions
  coding_is {columns} k =
      let room : room_of columns ≡ room_for_all (settings_of c) (planes_of c) = ap room_of k ∙ room_is (settings_of c) (planes_of c) in
      λ i. first_no (preset_question (settings_of c).preset ∷ shift_question (settings_of c).shift ∷ ask (w i) no_plane ∷ ask (s i) no_stride ∷ ask (r i) no_rows ∷ ask (fits (together at (room i)) lengths) no_room ∷ coding_starts_question at ∷ [])
