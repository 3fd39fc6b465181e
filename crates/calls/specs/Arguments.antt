-- What the calls on planes and slices are given. Document 01, 'Plane and slice' and 'Calls in a row'.
use Rattle.std.specs.Prelude.{List, [], ◌∷◌, ℕ, length, take}
pub use Rattle.sample.specs.Depth.{Depth, eight, ten, is_ten}

pub record Settings : Type 0 where
  pub depth : Depth
  pub preset : ℕ
  pub shift : ℕ

abbrev pub settings : Depth → ℕ → ℕ → Settings
settings depth preset shift = record { depth = depth; preset = preset; shift = shift }

-- rows lent for one plane, and how many samples a row has
pub record Rows : Type 0 where
  pub stride : ℕ
  pub samples : List ℕ

abbrev pub rows : ℕ → List ℕ → Rows
rows stride samples = record { stride = stride; samples = samples }

-- "A plane is 16 rows of `stride` samples." The place says which plane of a picture it is
pub record Plane : Type 0 where
  pub place : ℕ
  pub stride : ℕ
  pub samples : List ℕ

abbrev pub plane : ℕ → ℕ → List ℕ → Plane
plane place stride samples = record { place = place; stride = stride; samples = samples }

abbrev pub plane_at : ℕ → Rows → Plane
plane_at k r = record { place = k; stride = r.stride; samples = r.samples }

-- a call on one plane, or on the first n of a slice's four planes
pub data Call : Type 0 where
  one_plane : Settings → Plane → Call
  one_slice : Settings → ℕ → Rows → Rows → Rows → Rows → Call

abbrev pub settings_of : Call → Settings
settings_of (one_plane σ p) = σ
settings_of (one_slice σ n a b c d) = σ

-- every plane lent; the places of a slice's planes are their index
abbrev pub planes_lent : Call → List Plane
planes_lent (one_plane σ p) = p ∷ []
planes_lent (one_slice σ n a b c d) = plane_at 0 a ∷ plane_at 1 b ∷ plane_at 2 c ∷ plane_at 3 d ∷ []

-- "a slice stands for its planes in order"; planes above the count are neither asked nor touched
abbrev pub planes_of : Call → List Plane
planes_of (one_plane σ p) = p ∷ []
planes_of (one_slice σ n a b c d) = take n (planes_lent (one_slice σ n a b c d))

-- a number for each stream: positions, lengths, room
pub record PerStream : Type 0 where
  pub dc : ℕ
  pub ac : ℕ

abbrev pub positions : ℕ → ℕ → PerStream
positions d a = record { dc = d; ac = a }

-- the two lent buffers, or streams
pub record Buffers : Type 0 where
  pub dc_bytes : List ℕ
  pub ac_bytes : List ℕ

abbrev pub buffers : List ℕ → List ℕ → Buffers
buffers dcs acs = record { dc_bytes = dcs; ac_bytes = acs }

abbrev pub lengths_of : Buffers → PerStream
lengths_of b = positions (length b.dc_bytes) (length b.ac_bytes)
