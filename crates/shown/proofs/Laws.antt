-- Laws of shown rows.
use mathlib.Core.Path.{◌≡◌, refl, sym, ap, ◌∙◌}
use mathlib.Core.Bool.{Bool, true, false}
use mathlib.Core.List.{List}
use Prim.Native.Nat.{ℕ, ◌+◌, ◌-◌, ◌*◌, ◌/◌, ◌%◌, ◌≤◌, ◌<◌}
use native.Mathlib.Omega.{arith}
use native.Mathlib.Nat.{le-div_iff_mul-le, add-mul, one-mul, mul_left_comm}
use lib.Dec.{leb, ltb, eqb}
use lib.ListN.{length, take, drop}
use Rattle.std.proofs.Common.{Bor}
use borrow.Author.Tests.{lt-ltb, le-ltb, le-leb, leb-true, leb-false, ltb-true, ltb-false}
use Rattle.ask.specs.Ask.{accepted, first_no}
use Rattle.ask.proofs.Asked.{asked_yes}
use Rattle.ask.specs.Limits.{stride_ok, rows_high, stride_max}
use Rattle.shown.specs.Shown.{up_to_end, shown_questions, shown_of, slice_rows, picked, was_accepted}

-- ---- a picture reaches the slice's end: by division
samples_of_lem : (slice stride : ℕ) → up_to_end stride slice ≡ rows_high * ((slice + 1) * stride)
samples_of_lem slice stride = mul_left_comm (slice + 1) rows_high stride

pub reach_none : (n stride slice : ℕ) → stride ≡ 0 → true ≡ leb (up_to_end stride slice) n
reach_none n stride slice e = sym (le-leb (up_to_end stride slice) n (omega (arith, samples_of_lem slice stride, ap (λ (s : ℕ). (slice + 1) * s) e)))

pub reach : (n stride slice : ℕ) → 0 < stride → ltb slice (n / rows_high / stride) ≡ leb (up_to_end stride slice) n
reach n stride slice h = go (leb (up_to_end stride slice) n) refl
  where
    go : (b : Bool) → leb (up_to_end stride slice) n ≡ b → ltb slice (n / rows_high / stride) ≡ b
    go true e =
        let j : (slice + 1) * stride ≤ n / rows_high = omega (arith, samples_of_lem slice stride, leb-true (up_to_end stride slice) n e) in
        let k : slice + 1 ≤ n / rows_high / stride = (le-div_iff_mul-le h).1 j in
        lt-ltb slice (n / rows_high / stride) (omega arith)
    go false e = le-ltb slice (n / rows_high / stride) (not_more (ltb slice (n / rows_high / stride)) refl)
      where
        not_more : (b : Bool) → ltb slice (n / rows_high / stride) ≡ b → n / rows_high / stride ≤ slice
        not_more false d = ltb-false slice (n / rows_high / stride) d
        not_more true d =
            let j : slice < n / rows_high / stride = ltb-true slice (n / rows_high / stride) d in
            let k : slice + 1 ≤ n / rows_high / stride = omega arith in
            let l : (slice + 1) * stride ≤ n / rows_high = (le-div_iff_mul-le h).0 k in
            absurd (omega (arith, samples_of_lem slice stride, leb-false (up_to_end stride slice) n e))

-- ---- what the questions leave
false_true : false ≡ true → ⊥
false_true e = cc

pub record Stride (stride : ℕ) : Type 0 where
  pub least : 8 ≤ stride
  pub most : stride ≤ stride_max

pub legal_stride : (stride : ℕ) → stride_ok stride ≡ true → Stride stride
legal_stride stride e = go (eqb (stride % 8) 0) refl (leb 8 stride) refl (leb stride stride_max) refl
  where
    go : (a : Bool) → eqb (stride % 8) 0 ≡ a → (b : Bool) → leb 8 stride ≡ b → (d : Bool) → leb stride stride_max ≡ d → Stride stride
    go false x b y d z = absurd (false_true (rw x at e))
    go true x false y d z = absurd (false_true (rw (x, y) at e))
    go true x true y false z = absurd (false_true (rw (x, y, z) at e))
    go true x true y true z = record { least = leb-true 8 stride y; most = leb-true stride stride_max z }

pub record Shows (stride slice new held : ℕ) : Type 0 where
  pub least : 8 ≤ stride
  pub most : stride ≤ stride_max
  pub in_new : slice * (16 * stride) + 16 * stride ≤ new
  pub in_held : slice * (16 * stride) + 16 * stride ≤ held

end_is : (slice s : ℕ) → (slice + 1) * s ≡ slice * s + s
end_is slice s = add-mul slice 1 s ∙ ap (λ (x : ℕ). slice * s + x) (one-mul s)

pub shows : (stride slice new held : ℕ) → 0 ≡ first_no (shown_questions stride slice new held) → Shows stride slice new held
unfolding shown_questions first_no
shows stride slice new held e = go (stride_ok stride) refl (leb (up_to_end stride slice) new) refl (leb (up_to_end stride slice) held) refl
  where
    go : (a : Bool) → stride_ok stride ≡ a → (b : Bool) → leb (up_to_end stride slice) new ≡ b → (d : Bool) → leb (up_to_end stride slice) held ≡ d → Shows stride slice new held
    go false x b y d z = absurd (let k = rw x at e in omega arith)
    go true x false y d z = absurd (let k = rw (x, y) at e in omega arith)
    go true x true y false z = absurd (let k = rw (x, y, z) at e in omega arith)
    go true x true y true z =
        let l = legal_stride stride x in
        record {
          least = l.least;
          most = l.most;
          in_new = omega (arith, end_is slice (16 * stride), leb-true (up_to_end stride slice) new y);
          in_held = omega (arith, end_is slice (16 * stride), leb-true (up_to_end stride slice) held z);
        }

-- ---- the answer
pub part_size : (p n : ℕ) → p + n - p ≡ n
part_size p n = omega arith

module _ {A : Type 0} (stride slice verdict : ℕ) (new held : Bor (List A)) (e : 0 ≡ first_no (shown_questions stride slice (length new.now) (length held.now))) where
  pub in_picture : {p : Bor (List A)} → p ≡ picked (was_accepted verdict) new held → slice * (16 * stride) + 16 * stride ≤ length p.now
  in_picture f = rw f (go (was_accepted verdict))
    where
      go : (b : Bool) → slice * (16 * stride) + 16 * stride ≤ length (picked b new held).now
      go true = (shows stride slice (length new.now) (length held.now) e).in_new
      go false = (shows stride slice (length new.now) (length held.now) e).in_held

  picked_now : (b : Bool) {p : Bor (List A)} → p ≡ picked b new held → p.now ≡ picked b new.now held.now
  picked_now true f = rw f
  picked_now false f = rw f

  pub shown : {p : Bor (List A)} → p ≡ picked (was_accepted verdict) new held
      → accepted (take (slice * (16 * stride) + 16 * stride - slice * (16 * stride)) (drop (slice * (16 * stride)) p.now)) ≡ shown_of stride slice verdict new.now held.now
  unfolding shown_of
  shown f =
      rw (
        asked_yes _ (accepted (slice_rows stride slice (picked (was_accepted verdict) new.now held.now))) e,
        part_size (slice * (16 * stride)) (16 * stride),
        picked_now (was_accepted verdict) f,
      )
