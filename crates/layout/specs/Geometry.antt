-- Frame geometry (layout.rs). Document 01, 'Frame'.
use Rattle.std.specs.Prelude.{Bool, true, false, ◌&&◌, ◌||◌, [], ◌∷◌, ℕ, ◌+◌, ◌-◌, ◌*◌, ◌/◌, ◌%◌, leb, ltb, eqb}
use Rattle.ask.specs.Ask.{Answer, accepted, Question, ask, asked}
use Rattle.ask.specs.Limits.{side_min, width_max, height_max, rows_high}
use Rattle.ask.specs.Numbers.{no_size}

-- v rounded up to a multiple of a
abbrev pub align_up : ℕ → ℕ → ℕ
align_up v a = (v + (a - 1)) / a * a

-- question 9: "Width even, 16 to 7,680, height 16 to 4,320?"
abbrev pub width_ok : ℕ → Bool
width_ok w = eqb (w % 2) 0 && (leb side_min w && leb w width_max)

abbrev pub height_ok : ℕ → Bool
height_ok h = leb side_min h && leb h height_max

abbrev pub size_ok : ℕ → ℕ → Bool
size_ok w h = width_ok w && height_ok h

abbrev pub size_question : ℕ → ℕ → Question
size_question w h = ask (size_ok w h) no_size

-- what belongs to a size, where that question is answered yes
unfoldable pub of_size : {A : Type 0} → ℕ → ℕ → A → Answer A
of_size w h a = asked (size_question w h ∷ []) (accepted a)

-- planes 0 and 3 have the luma stride, planes 1 and 2 the chroma stride
abbrev pub luma_stride : ℕ → ℕ
luma_stride w = align_up w 8

abbrev pub chroma_stride : ℕ → ℕ
chroma_stride w = align_up (w / 2) 8

abbrev pub aligned_height : ℕ → ℕ
aligned_height h = align_up h rows_high

-- slices of 16 rows
abbrev pub slice_count : ℕ → ℕ
slice_count h = aligned_height h / rows_high

-- "Limits per stream: stride x 32 (DC), stride x 56 (AC), by the stride of plane 0."
abbrev pub dc_per_sample : ℕ
dc_per_sample = 32

abbrev pub ac_per_sample : ℕ
ac_per_sample = 56

abbrev pub max_dc_len : ℕ → ℕ
max_dc_len w = luma_stride w * dc_per_sample

abbrev pub max_ac_len : ℕ → ℕ
max_ac_len w = luma_stride w * ac_per_sample

-- "Limits per stream": those of a width, by the stream's kind (true: AC)
abbrev pub limit_of : Bool → ℕ → ℕ
limit_of false w = max_dc_len w
limit_of true w = max_ac_len w

-- "only heights 480, 576 and 1080 keep it"
abbrev pub interlace_capable : ℕ → Bool
interlace_capable h = eqb h 480 || (eqb h 576 || eqb h 1080)

pub record Geometry : Type 0 where
  pub width : ℕ
  pub height : ℕ
  pub aligned_height : ℕ
  pub slices : ℕ
  pub luma : ℕ
  pub chroma : ℕ
  pub max_dc_len : ℕ
  pub max_ac_len : ℕ

abbrev pub geometry_of : ℕ → ℕ → Geometry
geometry_of w h =
    record {
      width = w;
      height = h;
      aligned_height = aligned_height h;
      slices = slice_count h;
      luma = luma_stride w;
      chroma = chroma_stride w;
      max_dc_len = max_dc_len w;
      max_ac_len = max_ac_len w;
    }

abbrev pub layout_of : ℕ → ℕ → Answer Geometry
layout_of w h = of_size w h (geometry_of w h)

-- the image row of a coded row, or none for a padding row
pub data ImageRow : Type 0 where
  padding : ImageRow
  row : ℕ → ImageRow

abbrev pub row_if : Bool → ℕ → ImageRow
row_if true r = row r
row_if false r = padding

-- the top field (even rows) lies in the upper half, the bottom field in the lower half
abbrev pub field_row : ℕ → ℕ → ℕ → ImageRow
field_row height f parity = row_if (ltb f (height / 2)) (2 * f + parity)

abbrev pub by_half : Bool → ℕ → ℕ → ℕ → ImageRow
by_half true height half r = field_row height r 0
by_half false height half r = field_row height (r - half) 1

unfoldable pub image_row_of : ℕ → ℕ → Bool → ImageRow
image_row_of h r false = row_if (ltb r h) r
image_row_of h r true = by_half (ltb r (aligned_height h / 2)) h (aligned_height h / 2) r

-- the size of the 1/8 preview
unfoldable pub preview_width : ℕ → ℕ
preview_width w = align_up (w / 8) 2

unfoldable pub preview_height : ℕ → Bool → ℕ
preview_height h false = h / 8
preview_height h true = h / 8 - h / 8 % 2

pub record PreviewSize : Type 0 where
  pub width : ℕ
  pub height : ℕ

abbrev pub preview_size : ℕ → ℕ → Bool → PreviewSize
preview_size w h interlaced = record { width = preview_width w; height = preview_height h interlaced }

-- ---- "the methods of Layout": a size that is refused has no layout, so it has none of these
abbrev pub interlace_capable_of : ℕ → ℕ → Answer Bool
interlace_capable_of w h = of_size w h (interlace_capable h)

abbrev pub layout_row : ℕ → ℕ → ℕ → Bool → Answer ImageRow
layout_row w h r interlaced = of_size w h (image_row_of h r interlaced)

abbrev pub preview_size_of : ℕ → ℕ → Bool → Answer PreviewSize
preview_size_of w h interlaced = of_size w h (preview_size w h interlaced)
