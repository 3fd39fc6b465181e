-- Laws of the size calls.
use mathlib.Core.Path.{◌≡◌, refl, sym, ap, ◌∙◌}
use mathlib.Core.Bool.{true}
use mathlib.Core.List.{List, [], ◌∷◌}
use Prim.Native.Nat.{ℕ, zero, suc, ◌*◌, ◌/◌, ◌≤◌}
use native.Mathlib.Omega.{arith}
use lib.ListN.{length, take}
use Rattle.ask.specs.Ask.{Question, refused, accepted, first_no}
use Rattle.ask.specs.Limits.{stride_ok, count_ok, dc_block_bytes, ac_block_bytes, dc_column_bytes, ac_column_bytes}
use Rattle.ask.specs.Refusals.{number_of}
use Rattle.ask.specs.declared.refusal.Refusal.{Refusal}
use Rattle.ask.proofs.Asked.{asked_no, asked_yes}
use Rattle.ask.proofs.FirstNo.{passed}
use Rattle.calls.specs.Arguments.{eight, settings, Plane, PerStream, settings, eight}
use Rattle.calls.specs.Grid.{blocks_of}
use Rattle.calls.specs.Questions.{strides_ok, lengths_at_most, together, plane_size_questions, slice_size_questions}
use Rattle.calls.specs.Previews.{plane_size, slice_size, lengths_of_all, of_stride, first_of_four}
use Rattle.calls.proofs.Legal.{stride_legal}
use Rattle.slice.specs.Room.{room_for_all}
use Rattle.std.proofs.lemmas.List.{length-take}
use Rattle.questions.specs.four.Firsts.{all_of, sum_of}
use Rattle.questions.specs.order.Order.{room_of}
use Rattle.questions.specs.of_call.Numbers.{columns_in}
use Rattle.questions.proofs.of_call.Laws.{each_take, columns_take, columns_le, room_is}

-- ---- one plane
module _ (stride : ℕ) where
  pub plane_no : (e : Refusal) → number_of e ≡ first_no (plane_size_questions stride) → refused (number_of e) ≡ plane_size stride
  unfolding plane_size
  plane_no e h = asked_no (plane_size_questions stride) (accepted (lengths_at_most stride)) e h

  plane_lengths : room_of (stride / 8) ≡ lengths_at_most stride
  plane_lengths =
      let d : dc_column_bytes * (stride / 8) ≡ dc_block_bytes * blocks_of stride = omega arith in
      let a : ac_column_bytes * (stride / 8) ≡ ac_block_bytes * blocks_of stride = omega arith in
      λ i. record { dc = d i; ac = a i }

  pub plane_sized : {l : PerStream} → l ≡ room_of (stride / 8) → 0 ≡ first_no (plane_size_questions stride) → accepted l ≡ plane_size stride
  unfolding plane_size
  plane_sized r h = ap accepted (r ∙ plane_lengths) ∙ sym (asked_yes (plane_size_questions stride) (accepted (lengths_at_most stride)) h)

  pub plane_columns : 0 ≡ first_no (plane_size_questions stride) → stride / 8 ≤ 960
  unfolding plane_size_questions
  plane_columns h = omega (arith, (stride_legal stride (passed (stride_ok stride) 3 [] (sym h)).0).stride_le)

-- ---- a slice
lengths_room : (ps : List Plane) → room_for_all (settings eight 0 0) ps ≡ lengths_of_all ps
lengths_room [] = refl
lengths_room (p ∷ ps) = ap (together (lengths_at_most p.stride)) (lengths_room ps)

module _ (n s0 s1 s2 s3 : ℕ) where
  abbrev four : List Plane
  four = of_stride 0 s0 ∷ of_stride 1 s1 ∷ of_stride 2 s2 ∷ of_stride 3 s3 ∷ []

  pub strides : all_of (take n (stride_ok s0 ∷ stride_ok s1 ∷ stride_ok s2 ∷ stride_ok s3 ∷ [])) ≡ strides_ok (first_of_four n s0 s1 s2 s3)
  strides = each_take (λ p. stride_ok p.stride) n four

  columns : sum_of (take n (s0 / 8 ∷ s1 / 8 ∷ s2 / 8 ∷ s3 / 8 ∷ [])) ≡ columns_in (first_of_four n s0 s1 s2 s3)
  columns = columns_take n four

  abbrev questions : List Question
  questions = slice_size_questions n (first_of_four n s0 s1 s2 s3)

  pub slice_no : (e : Refusal) → number_of e ≡ first_no questions → refused (number_of e) ≡ slice_size n s0 s1 s2 s3
  unfolding slice_size
  slice_no e h = asked_no questions (accepted (lengths_of_all (first_of_four n s0 s1 s2 s3))) e h

  strides_good : 0 ≡ first_no questions → strides_ok (first_of_four n s0 s1 s2 s3) ≡ true
  unfolding slice_size_questions
  strides_good h = (passed (strides_ok (first_of_four n s0 s1 s2 s3)) 3 [] (passed (count_ok n) 2 _ (sym h)).1).0

  module _ {k : ℕ} (g : k ≡ sum_of (take n (s0 / 8 ∷ s1 / 8 ∷ s2 / 8 ∷ s3 / 8 ∷ []))) where
    pub slice_sized : {l : PerStream} → l ≡ room_of k → 0 ≡ first_no questions → accepted l ≡ slice_size n s0 s1 s2 s3
    unfolding slice_size
    slice_sized r h =
        ap accepted (r ∙ ap room_of (g ∙ columns) ∙ room_is (settings eight 0 0) (first_of_four n s0 s1 s2 s3) ∙ lengths_room (first_of_four n s0 s1 s2 s3))
        ∙ sym (asked_yes questions (accepted (lengths_of_all (first_of_four n s0 s1 s2 s3))) h)

    pub slice_columns : 0 ≡ first_no questions → k ≤ 3840
    slice_columns h = omega (arith, g ∙ columns, columns_le (first_of_four n s0 s1 s2 s3) (strides_good h), length-take n four)
