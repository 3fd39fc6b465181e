-- Reading a frame. Document 01, 'Frame' and the order of a frame's questions.
use Rattle.std.specs.Prelude.{Bool, true, false, ◌&&◌, List, [], ◌∷◌, ℕ, ◌+◌, ltb, length, take, drop}
use Rattle.ask.specs.Ask.{Answer, refused, accepted, ask, asked, and_then}
use Rattle.ask.specs.Numbers.{no_turn}
use Rattle.layout.specs.Geometry.{slice_count, max_dc_len, max_ac_len, limit_of}
use Rattle.parser.specs.streams.Streams.{length_at, one_stream, streams}
use Rattle.parser.specs.head.Header.{header_length, header_questions, FrameRead, frame_read}

-- "all DC streams, then all AC streams"
abbrev pub dc_streams : ℕ → ℕ → List ℕ → Answer ℕ
dc_streams w h f = streams (slice_count h) (max_dc_len w) f (header_length f)

-- "A frame that ends after its DC streams has no AC."
abbrev pub ac_there_at : List ℕ → ℕ → Bool
ac_there_at f q = ltb q (length f)

abbrev pub ac_streams : Bool → ℕ → ℕ → List ℕ → ℕ → Answer ℕ
ac_streams true w h f q = streams (slice_count h) (max_ac_len w) f q
ac_streams false w h f q = accepted q

unfoldable pub parse_of : ℕ → ℕ → List ℕ → Answer FrameRead
parse_of w h f =
    asked (header_questions w h f)
    (and_then (dc_streams w h f) (λ q.
    and_then (ac_streams (ac_there_at f q) w h f q) (λ e. accepted (frame_read h f (ac_there_at f q)))))

-- ---- the stream of a slice, as a part of the caller's frame: where it begins and how long it is
pub record View : Type 0 where
  pub offset : ℕ
  pub size : ℕ

abbrev pub stream_part : List ℕ → ℕ → View
stream_part f p = record { offset = p + 4; size = length_at f p }

-- where the streams of a kind begin (ac: the AC streams)
abbrev pub kind_start : Bool → ℕ → ℕ → List ℕ → Answer ℕ
kind_start false w h f = accepted (header_length f)
kind_start true w h f = dc_streams w h f

-- question 14, put last: "Slice number below the count .., AC there when wanted"
abbrev pub wanted : Bool → FrameRead → Bool
wanted false r = true
wanted true r = r.ac_there

-- the stream of a slice is found by walking over those before it
unfoldable pub nth_stream : ℕ → ℕ → List ℕ → ℕ → Answer View
nth_stream n limit f p = and_then (streams n limit f p) (λ q. and_then (one_stream limit f q) (λ e. accepted (stream_part f q)))

abbrev pub kind_view : Bool → ℕ → ℕ → List ℕ → ℕ → Answer View
kind_view ac w h f slice = and_then (kind_start ac w h f) (λ p. nth_stream slice (limit_of ac w) f p)

unfoldable pub view_of : ℕ → ℕ → List ℕ → Bool → ℕ → Answer View
view_of w h f ac slice =
    and_then (parse_of w h f) (λ r.
    asked (ask (ltb slice (slice_count h) && wanted ac r) no_turn ∷ [])
    (kind_view ac w h f slice))

-- "For a slice number the stream is handed back as that part of the caller's frame": the bytes of the view
abbrev pub bytes_of : List ℕ → Answer View → Answer (List ℕ)
bytes_of f (refused n) = refused n
bytes_of f (accepted v) = accepted (take v.size (drop v.offset f))

-- what a call hands out: the number, and that part of the frame
pub record Viewed : Type 0 where
  pub number : ℕ
  pub part : List ℕ

abbrev pub viewed_as : ℕ → List ℕ → Viewed
viewed_as n part = record { number = n; part = part }

-- "A refusal yields the number, .. an empty part for a view"
abbrev pub view_handed : Answer (List ℕ) → Viewed
view_handed (refused n) = viewed_as n []
view_handed (accepted part) = viewed_as 0 part
