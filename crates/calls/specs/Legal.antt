-- What questions 1 to 5 leave of a call's arguments. Document 01, 'The questions before any work'.
use Rattle.std.specs.Prelude.{◌≡◌, List, [], ◌∷◌, ◌%◌, ◌≤◌, length}
use Rattle.ask.specs.Limits.{preset_max, shift_max, place_max, planes_max, stride_max, rows_needed}
use Rattle.calls.specs.Arguments.{Settings, Plane, Call, one_plane, one_slice, settings_of, planes_of}

-- questions 1 and 2
pub record LegalSettings (σ : Settings) : Type 0 where
  pub preset_le : σ.preset ≤ preset_max
  pub shift_le : σ.shift ≤ shift_max

-- questions 4 and 5
pub record LegalPlane (p : Plane) : Type 0 where
  pub eights : p.stride % 8 ≡ 0
  pub wide : 8 ≤ p.stride
  pub stride_le : p.stride ≤ stride_max
  pub rows_long : rows_needed p.stride ≤ length p.samples

abbrev pub Every : (Plane → Type 0) → List Plane → Type 0
Every P [] = Unit {0}
Every P (p ∷ ps) = P p × Every P ps

-- question 3: the place of one plane, or how many planes a slice has
abbrev pub Which : Call → Type 0
Which (one_plane σ p) = p.place ≤ place_max
Which (one_slice σ n a b c d) = (1 ≤ n) × (n ≤ planes_max)

pub record Legal (c : Call) : Type 0 where
  pub settings : LegalSettings (settings_of c)
  pub which : Which c
  pub planes : Every LegalPlane (planes_of c)
