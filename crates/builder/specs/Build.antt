-- The builder's state and header. Document 01, 'Frame': "The builder takes the header, then streams one by one, each named by its kind .. and slice number".
use Rattle.std.specs.Prelude.{Bool, true, false, List, [], ◌∷◌, ℕ, zero, suc, ◌+◌, ◌%◌, leb, length}
use Rattle.bits.specs.Lay.{lay}
use Rattle.ask.specs.Ask.{Answer, accepted, Question, ask, asked}
use Rattle.ask.specs.Limits.{shift_ok}
use Rattle.ask.specs.Numbers.{no_shift, no_room}
use Rattle.layout.specs.Geometry.{size_question, slice_count}

-- "when no DC shift is named it writes 0"
abbrev pub default_shift : ℕ
default_shift = 0

-- progressive 1, interlaced 2
abbrev pub format_byte : Bool → ℕ
format_byte false = 1
format_byte true = 2

-- "slice count modulo 256 (270 is stored as 14)"
abbrev pub count_byte : ℕ → ℕ
count_byte h = slice_count h % 256

-- as `write` has it: the longer header only for a shift above 0
unfoldable pub header_bytes : Bool → ℕ → ℕ → ℕ → List ℕ
header_bytes interlaced quality zero count = format_byte interlaced ∷ quality ∷ count ∷ []
header_bytes interlaced quality (suc s) count = 3 ∷ suc s ∷ format_byte interlaced ∷ quality ∷ count ∷ []

-- whose turn it is: `ac_turn` false while the DC streams are put, `next` the slice number; where the next byte goes
pub record Build : Type 0 where
  pub ac_turn : Bool
  pub next : ℕ
  pub at : ℕ

-- question 6: room from `at` on for n bytes more, in a buffer of so many
abbrev pub room_to_write : ℕ → ℕ → ℕ → Question
room_to_write len at n = ask (leb (at + n) len) no_room

-- the state and the buffer afterwards
pub record Built : Type 0 where
  pub state : Build
  pub bytes : List ℕ

-- the first DC stream has its turn
abbrev pub started : ℕ → Build
started at = record { ac_turn = false; next = 0; at = at }

-- 3 bytes, or 5 with the DC shift
abbrev pub header_size : ℕ → ℕ
header_size zero = 3
header_size (suc s) = 5

-- the header: questions 2, 6, 9
unfoldable pub start_questions : ℕ → ℕ → ℕ → ℕ → ℕ → List Question
start_questions w h shift len at = ask (shift_ok shift) no_shift ∷ room_to_write len at (header_size shift) ∷ size_question w h ∷ []

unfoldable pub header_of : ℕ → ℕ → Bool → ℕ → ℕ → List ℕ → ℕ → Answer Built
header_of w h interlaced quality shift out at =
    asked (start_questions w h shift (length out) at)
    (accepted
    (record {
      state = started (at + header_size shift);
      bytes = lay out at (header_bytes interlaced quality shift (count_byte h));
    }))
