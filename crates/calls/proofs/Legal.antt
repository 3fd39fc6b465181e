-- What a call has been found to be where no question turned it away, for planes and slices alike.
use mathlib.Core.Path.{◌≡◌}
use mathlib.Core.Bool.{true, ◌&&◌}
use mathlib.Core.List.{List, [], ◌∷◌, ◌++◌}
use Prim.Native.Nat.{ℕ, ◌%◌, ◌≤◌}
use native.Mathlib.Omega.{arith}
use lib.Dec.{leb, eqb}
use lib.ListN.{length}
use borrow.Author.Tests.{leb-true, eqb-true}
use Rattle.ask.specs.Ask.{Question, first_no}
use Rattle.ask.specs.Numbers.{no_code}
use Rattle.ask.specs.Limits.{preset_max, preset_ok, shift_max, shift_ok, place_max, planes_max, stride_max, stride_ok, rows_needed, start_max, start_ok, dc_read_max, dc_read_ok, ac_read_max, ac_read_ok}
use Rattle.ask.proofs.FirstNo.{passed, left_yes, right_yes, not_given}
use Rattle.calls.specs.Arguments.{Plane, Call, one_plane, one_slice, settings_of, planes_of, PerStream}
use Rattle.calls.specs.Questions.{which_planes_ok, each, strides_ok, rows_ok, starts_ok, shared_questions, reading_questions}
use Rattle.calls.specs.Legal.{LegalPlane, Every, Which, Legal}

-- ---- a stride
pub record LegalStride (stride : ℕ) : Type 0 where
  pub eights : stride % 8 ≡ 0
  pub wide : 8 ≤ stride
  pub stride_le : stride ≤ stride_max

pub stride_legal : (stride : ℕ) → stride_ok stride ≡ true → LegalStride stride
stride_legal stride e =
    let r = right_yes (eqb (stride % 8) 0) (leb 8 stride && leb stride stride_max) e in
    record {
      eights = eqb-true (stride % 8) 0 (left_yes (eqb (stride % 8) 0) (leb 8 stride && leb stride stride_max) e);
      wide = leb-true 8 stride (left_yes (leb 8 stride) (leb stride stride_max) r);
      stride_le = leb-true stride stride_max (right_yes (leb 8 stride) (leb stride stride_max) r);
    }

-- ---- planes
pub first_stride : (p : Plane) (ps : List Plane) → strides_ok (p ∷ ps) ≡ true → LegalStride p.stride
first_stride p ps e = stride_legal p.stride (left_yes (stride_ok p.stride) (strides_ok ps) e)

pub other_strides : (p : Plane) (ps : List Plane) → strides_ok (p ∷ ps) ≡ true → strides_ok ps ≡ true
other_strides p ps e = right_yes (stride_ok p.stride) (strides_ok ps) e

every_legal : (ps : List Plane) → strides_ok ps ≡ true → each rows_ok ps ≡ true → Every LegalPlane ps
every_legal [] e f = tt
every_legal (p ∷ ps) e f =
    let s = first_stride p ps e in (
      record {
        eights = s.eights;
        wide = s.wide;
        stride_le = s.stride_le;
        rows_long = leb-true (rows_needed p.stride) (length p.samples) (left_yes (rows_ok p) (each rows_ok ps) f);
      },
      every_legal ps (other_strides p ps e) (right_yes (rows_ok p) (each rows_ok ps) f),
    )

which_legal : (c : Call) → which_planes_ok c ≡ true → Which c
which_legal (one_plane σ p) e = leb-true p.place place_max e
which_legal (one_slice σ n a b c d) e = (leb-true 1 n (left_yes (leb 1 n) (leb n planes_max) e), leb-true n planes_max (right_yes (leb 1 n) (leb n planes_max) e))

-- ---- questions 1 to 5
pub shared_legal : (c : Call) (rest : List Question) → first_no (shared_questions c ++ rest) ≡ 0 → Legal c × (first_no rest ≡ 0)
shared_legal c rest e =
    let q1 = passed (preset_ok (settings_of c).preset) 0 _ e in
    let q2 = passed (shift_ok (settings_of c).shift) 1 _ q1.1 in
    let q3 = passed (which_planes_ok c) 2 _ q2.1 in
    let q4 = passed (strides_ok (planes_of c)) 3 _ q3.1 in
    let q5 = passed (each rows_ok (planes_of c)) 4 _ q4.1 in (
      record {
        settings =
            record {
              preset_le = leb-true (settings_of c).preset preset_max q1.0;
              shift_le = leb-true (settings_of c).shift shift_max q2.0;
            };
        which = which_legal c q3.0;
        planes = every_legal (planes_of c) q4.0 q5.0;
      },
      q5.1,
    )

-- ---- a reading call
pub record ReadingLegal (c : Call) (lengths at : PerStream) : Type 0 where
  pub legal : Legal c
  pub dc_start : at.dc ≤ start_max
  pub ac_start : at.ac ≤ start_max
  pub dc_short : lengths.dc ≤ dc_read_max
  pub ac_short : lengths.ac ≤ ac_read_max

pub reading_legal : (c : Call) (lengths at : PerStream) → first_no (reading_questions c lengths at) ≡ 0 → ReadingLegal c lengths at
unfolding reading_questions
reading_legal c lengths at e =
    let short = dc_read_ok lengths.dc && ac_read_ok lengths.ac in
    let q5 = shared_legal c _ e in
    let q7 = passed (starts_ok at && short) 6 _ q5.1 in
    let s = left_yes (starts_ok at) short q7.0 in
    let l = right_yes (starts_ok at) short q7.0 in
    record {
      legal = q5.0;
      dc_start = leb-true at.dc start_max (left_yes (start_ok at.dc) (start_ok at.ac) s);
      ac_start = leb-true at.ac start_max (right_yes (start_ok at.dc) (start_ok at.ac) s);
      dc_short = leb-true lengths.dc dc_read_max (left_yes (dc_read_ok lengths.dc) (ac_read_ok lengths.ac) l);
      ac_short = leb-true lengths.ac ac_read_max (right_yes (dc_read_ok lengths.dc) (ac_read_ok lengths.ac) l);
    }

-- before question 8 no call is refused with 8
pub not_bad : (c : Call) (lengths at : PerStream) → first_no (reading_questions c lengths at) ≡ no_code → ⊥
unfolding reading_questions
not_bad c lengths at e =
    not_given no_code _ ((λ z. omega arith), ((λ z. omega arith), ((λ z. omega arith), ((λ z. omega arith), ((λ z. omega arith), ((λ z. omega arith), (λ z. omega arith))))))) e
