-- What the header of a frame says. Document 01, 'Frame' and the order of a frame's questions.
use Rattle.std.specs.Prelude.{Bool, true, false, ◌&&◌, cond, List, [], ◌∷◌, ℕ, ◌+◌, ◌%◌, ◌≤◌, leb, eqb, length}
use Rattle.ask.specs.Ask.{Question, ask}
use Rattle.ask.specs.Limits.{shift_ok, width_max, height_max}
use Rattle.ask.specs.Numbers.{no_shift, no_bytes, no_format, no_count}
use Rattle.layout.specs.Geometry.{size_question, slice_count, interlace_capable}
use Rattle.parser.specs.streams.Streams.{byte_at}

-- "Header byte 1 or 2, or 3 followed by the DC shift and a second format byte; then quality, then slice count modulo 256"
abbrev pub is_extended : List ℕ → Bool
is_extended f = eqb (byte_at f 0) 3

-- where the format byte that says progressive or interlaced stands
abbrev pub format_at : List ℕ → ℕ
format_at f = cond (is_extended f) 2 0

abbrev pub shift_in : List ℕ → ℕ
shift_in f = cond (is_extended f) (byte_at f 1) 0

abbrev pub header_length : List ℕ → ℕ
header_length f = format_at f + 3

-- "A first byte of 2, or after a 3 any second format byte but 1, means interlaced, and only heights 480, 576 and 1080 keep it."
abbrev pub not_one : Bool → Bool
not_one true = false
not_one false = true

abbrev pub is_interlaced : ℕ → List ℕ → Bool
is_interlaced h f = not_one (eqb (byte_at f (format_at f)) 1) && interlace_capable h

-- question 12: "Slice count as the layout's?"
abbrev pub slice_count_ok : ℕ → List ℕ → Bool
slice_count_ok h f = eqb (byte_at f (format_at f + 2)) (slice_count h % 256)

-- question 11: "First byte 1, 2 or 3?"
abbrev pub format_ok : List ℕ → Bool
format_ok f = leb 1 (byte_at f 0) && leb (byte_at f 0) 3

-- "A frame is questioned 9, 10 (five bytes), 11, 2, 12": those about the bytes are 11, 2, 12
abbrev pub byte_questions : ℕ → List ℕ → List Question
byte_questions h f = ask (format_ok f) no_format ∷ ask (shift_ok (shift_in f)) no_shift ∷ ask (slice_count_ok h f) no_count ∷ []

-- "Five bytes there"
abbrev pub five_question : List ℕ → Question
five_question f = ask (leb 5 (length f)) no_bytes

unfoldable pub header_questions : ℕ → ℕ → List ℕ → List Question
header_questions w h f = size_question w h ∷ five_question f ∷ byte_questions h f

-- what the header's questions leave: a legal size and five bytes at least
pub record LegalFrame (w h : ℕ) (f : List ℕ) : Type 0 where
  pub wide : w ≤ width_max
  pub high : h ≤ height_max
  pub five : 5 ≤ length f

-- what is read of a frame: interlaced, quality, DC shift, header length, and whether AC streams follow
pub record FrameRead : Type 0 where
  pub interlaced : Bool
  pub quality : ℕ
  pub dc_shift : ℕ
  pub header_len : ℕ
  pub ac_there : Bool

abbrev pub frame_read : ℕ → List ℕ → Bool → FrameRead
frame_read h f there =
    record {
      interlaced = is_interlaced h f;
      quality = byte_at f (format_at f + 1);
      dc_shift = shift_in f;
      header_len = header_length f;
      ac_there = there;
    }
