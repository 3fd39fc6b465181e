-- What a call leaves in the places that its caller lends for the answer.
use Rattle.std.specs.Prelude.{Bool, true, false, List, ℕ, ltb}
use Rattle.ask.specs.Ask.{Answer, refused, accepted, number_in}
use Rattle.layout.specs.Geometry.{Geometry, ImageRow, padding, row, PreviewSize}
use Rattle.parser.specs.head.Header.{FrameRead}
use Rattle.parser.specs.Frame.{View}
use Rattle.builder.specs.Build.{Built}

-- "A refusal yields the number ..; lent memory is unchanged": a part of the answer, or what stood there
abbrev pub left : {A B : Type 0} → Answer A → B → (A → B) → B
left (refused n) was part = was
left (accepted a) was part = part a

-- a call: the number that it returns, and what it leaves in the places and buffers that it is lent
pub record Handed (P : Type 0) : Type 0 where
  pub number : ℕ
  pub places : P

abbrev pub handed : {P : Type 0} → ℕ → P → Handed P
handed n places = record { number = n; places = places }

-- by its answer: the parts of it, or what stood there
abbrev pub handed_by : {A P : Type 0} → Answer A → (A → P) → P → Handed P
handed_by a parts was = handed (number_in a) (left a was parts)

-- truth values of C: any number but 0 is true
abbrev pub is_on : ℕ → Bool
is_on n = ltb 0 n

-- and 1 is handed out for true
abbrev pub flag_of : Bool → ℕ
flag_of true = 1
flag_of false = 0

-- ---- the places of each call, and the parts of its answer that go there
-- the geometry of a size
pub record LayoutPlaces : Type 0 where
  pub aligned_height : ℕ
  pub slices : ℕ
  pub luma : ℕ
  pub chroma : ℕ
  pub max_dc_len : ℕ
  pub max_ac_len : ℕ

abbrev pub layout_places : ℕ → ℕ → ℕ → ℕ → ℕ → ℕ → LayoutPlaces
layout_places high slices luma chroma dc ac =
    record { aligned_height = high; slices = slices; luma = luma; chroma = chroma; max_dc_len = dc; max_ac_len = ac }

abbrev pub layout_parts : Geometry → LayoutPlaces
layout_parts g = layout_places g.aligned_height g.slices g.luma g.chroma g.max_dc_len g.max_ac_len

-- a coded row: whether it is a row of the image, and which one
pub record RowPlaces : Type 0 where
  pub there : ℕ
  pub row : ℕ

abbrev pub row_places : ℕ → ℕ → RowPlaces
row_places there r = record { there = there; row = r }

-- padding leaves what stood in the place of the row
abbrev pub row_parts : ℕ → ImageRow → RowPlaces
row_parts was padding = row_places (flag_of false) was
row_parts was (row r) = row_places (flag_of true) r

-- the size of the 1/8 preview
pub record PreviewPlaces : Type 0 where
  pub width : ℕ
  pub height : ℕ

abbrev pub preview_places : ℕ → ℕ → PreviewPlaces
preview_places width height = record { width = width; height = height }

abbrev pub preview_parts : PreviewSize → PreviewPlaces
preview_parts p = preview_places p.width p.height

-- a frame's header
pub record FramePlaces : Type 0 where
  pub interlaced : ℕ
  pub quality : ℕ
  pub dc_shift : ℕ
  pub header_len : ℕ
  pub ac_there : ℕ

abbrev pub frame_places : ℕ → ℕ → ℕ → ℕ → ℕ → FramePlaces
frame_places interlaced quality shift long ac =
    record { interlaced = interlaced; quality = quality; dc_shift = shift; header_len = long; ac_there = ac }

abbrev pub frame_parts : FrameRead → FramePlaces
frame_parts f = frame_places (flag_of f.interlaced) f.quality f.dc_shift f.header_len (flag_of f.ac_there)

-- a slice's stream
pub record ViewPlaces : Type 0 where
  pub offset : ℕ
  pub size : ℕ

abbrev pub view_places : ℕ → ℕ → ViewPlaces
view_places offset size = record { offset = offset; size = size }

abbrev pub view_parts : View → ViewPlaces
view_parts v = view_places v.offset v.size

-- "an empty part for a view"
abbrev pub empty_part : ViewPlaces
empty_part = view_places 0 0

-- a frame that is built: the buffer, and the builder's state
pub record BuildPlaces : Type 0 where
  pub out : List ℕ
  pub ac_turn : ℕ
  pub next : ℕ
  pub at : ℕ

abbrev pub build_places : List ℕ → ℕ → ℕ → ℕ → BuildPlaces
build_places out turn next at = record { out = out; ac_turn = turn; next = next; at = at }

abbrev pub build_parts : Built → BuildPlaces
build_parts b = let s = b.state in build_places b.bytes (flag_of s.ac_turn) s.next s.at
