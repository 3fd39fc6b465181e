-- Streams in a frame, each after its length word. Document 01, 'Frame' and the order of a frame's questions.
use Rattle.std.specs.Prelude.{List, [], ◌∷◌, ℕ, zero, suc, ◌+◌, ◌*◌, leb, length, get_or}
use Rattle.ask.specs.Ask.{Answer, accepted, Question, ask, asked, and_then}
use Rattle.ask.specs.Numbers.{no_bytes, no_limit}

-- a byte of the frame
abbrev pub byte_at : List ℕ → ℕ → ℕ
byte_at f i = get_or f i 0

-- "a 32-bit length, low byte first"
unfoldable pub length_at : List ℕ → ℕ → ℕ
length_at f p = byte_at f p + 256 * (byte_at f (p + 1) + 256 * (byte_at f (p + 2) + 256 * byte_at f (p + 3)))

-- where the stream at p ends
abbrev pub stream_end : List ℕ → ℕ → ℕ
stream_end f p = p + 4 + length_at f p

-- "then stream by stream 10 (length), 13, 10 (bytes)"
abbrev pub at_stream : ℕ → List ℕ → ℕ → List Question
at_stream limit f p =
    ask (leb (p + 4) (length f)) no_bytes ∷ ask (leb (length_at f p) limit) no_limit ∷ ask (leb (stream_end f p) (length f)) no_bytes ∷ []

-- the place after the stream at p
unfoldable pub one_stream : ℕ → List ℕ → ℕ → Answer ℕ
one_stream limit f p = asked (at_stream limit f p) (accepted (stream_end f p))

-- n streams from p on
unfoldable pub streams : ℕ → ℕ → List ℕ → ℕ → Answer ℕ
streams zero limit f p = accepted p
streams (suc n) limit f p = and_then (one_stream limit f p) (λ q. streams n limit f q)
