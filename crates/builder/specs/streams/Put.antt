-- The builder's streams. Document 01, 'Frame': "then streams one by one, each named by its kind .. and slice number".
use Rattle.std.specs.Prelude.{Bool, true, false, ◌&&◌, ◌||◌, List, [], ◌∷◌, ◌++◌, ℕ, ◌+◌, ◌/◌, ◌%◌, leb, ltb, eqb, length}
use Rattle.bits.specs.Lay.{lay}
use Rattle.ask.specs.Ask.{Answer, accepted, Question, ask, asked}
use Rattle.ask.specs.Numbers.{no_limit, no_turn}
use Rattle.layout.specs.Geometry.{size_question, slice_count, limit_of}
use Rattle.builder.specs.Build.{Build, Built, room_to_write, header_bytes, count_byte}

-- a stream after its 32-bit length, low byte first
abbrev pub length_word : ℕ → List ℕ
length_word n = n % 256 ∷ n / 256 % 256 ∷ n / 65536 % 256 ∷ n / 16777216 % 256 ∷ []

unfoldable pub stream_bytes : List ℕ → List ℕ
stream_bytes s = length_word (length s) ++ s

abbrev pub same : Bool → Bool → Bool
same true b = b
same false true = false
same false false = true

-- question 13: "Stream within its limit?"
abbrev pub limit_question : ℕ → Bool → ℕ → Question
limit_question w ac n = ask (leb n (limit_of ac w)) no_limit

-- question 14: "Slice number below the count .., builder in turn?"
abbrev pub in_turn : ℕ → Bool → ℕ → Build → Bool
in_turn slices ac slice b = ltb slice slices && (same ac b.ac_turn && eqb slice b.next)

abbrev pub turn_question : ℕ → Build → Bool → ℕ → Question
turn_question h b ac slice = ask (in_turn (slice_count h) ac slice b) no_turn

-- after the last DC stream the AC streams have their turn; after the last AC stream nobody has
abbrev pub is_last_slice : ℕ → Build → Bool
is_last_slice slices b = eqb (b.next + 1) slices

abbrev pub next_turn : Bool → Bool → Bool
next_turn ac_turn true = true
next_turn ac_turn false = ac_turn

abbrev pub next_slice : Bool → Bool → ℕ → ℕ
next_slice false true n = 0
next_slice false false n = n + 1
next_slice true last n = n + 1

abbrev pub after_stream : ℕ → Build → ℕ → Build
after_stream slices b at =
    record {
      ac_turn = next_turn b.ac_turn (is_last_slice slices b);
      next = next_slice b.ac_turn (is_last_slice slices b) b.next;
      at = at;
    }

-- a stream of n bytes: questions 6, 9, 13, 14
unfoldable pub stream_questions : ℕ → ℕ → Build → Bool → ℕ → ℕ → ℕ → List Question
stream_questions w h b ac slice n len =
    room_to_write len b.at (4 + n) ∷ size_question w h ∷ limit_question w ac n ∷ turn_question h b ac slice ∷ []

unfoldable pub stream_of : ℕ → ℕ → Build → Bool → ℕ → List ℕ → List ℕ → Answer Built
stream_of w h b ac slice s out =
    asked (stream_questions w h b ac slice (length s) (length out))
    (accepted (record { state = after_stream (slice_count h) b (b.at + (4 + length s)); bytes = lay out b.at (stream_bytes s) }))

-- "the AC streams of all slices or of none": complete after the last DC stream, and after the last AC stream
abbrev pub is_complete : ℕ → Bool → ℕ → Bool
is_complete slices ac_turn next = ac_turn && (eqb next 0 || eqb next slices)

-- question 9 alone
unfoldable pub complete_of : ℕ → ℕ → Bool → ℕ → Answer Bool
complete_of w h ac_turn next = asked (size_question w h ∷ []) (accepted (is_complete (slice_count h) ac_turn next))

-- `write` of the Rust
unfoldable pub all_streams : List (List ℕ) → List ℕ
all_streams [] = []
all_streams (s ∷ ss) = stream_bytes s ++ all_streams ss

unfoldable pub write_of : ℕ → Bool → ℕ → ℕ → List (List ℕ) → List (List ℕ) → List ℕ
write_of h interlaced quality shift dc ac = header_bytes interlaced quality shift (count_byte h) ++ (all_streams dc ++ all_streams ac)
