-- A whole frame by the builder's calls. Document 01, 'Frame'.
use Rattle.std.specs.Prelude.{◌≡◌, Bool, true, false, List, [], ◌∷◌, ℕ, zero, suc, ◌-◌, ◌≤◌, length, take, drop}
use Rattle.ask.specs.Ask.{Answer, refused, accepted, and_then}
use Rattle.ask.specs.Numbers.{no_turn}
use Rattle.layout.specs.Geometry.{size_ok, slice_count, max_dc_len, max_ac_len}
use Rattle.builder.specs.Build.{Build, Built, header_of}
use Rattle.builder.specs.streams.Put.{stream_of}

-- streams of one kind, those of the slices k, k + 1, .. in turn
unfoldable pub put_all : ℕ → ℕ → Build → Bool → ℕ → List (List ℕ) → List ℕ → Answer Built
put_all w h b ac k [] out = accepted (record { state = b; bytes = out })
put_all w h b ac k (s ∷ ss) out = and_then (stream_of w h b ac k s out) (λ r. put_all w h r.state ac (suc k) ss r.bytes)

-- the header, all DC streams, all AC streams or none
unfoldable pub build_of : ℕ → ℕ → Bool → ℕ → ℕ → List (List ℕ) → List (List ℕ) → List ℕ → ℕ → Answer Built
build_of w h interlaced quality shift dc ac out at =
    and_then (header_of w h interlaced quality shift out at) (λ r.
    and_then (put_all w h r.state false 0 dc r.bytes) (λ q. put_all w h q.state true 0 ac q.bytes))

-- every stream within the limit
abbrev pub Within : ℕ → List (List ℕ) → Type 0
Within limit [] = Unit {0}
Within limit (s ∷ ss) = (length s ≤ limit) × Within limit ss

-- "the AC streams of all slices or of none"; bytes may lie after the last stream only where AC streams are there
abbrev pub AllOrNone : ℕ → List (List ℕ) → List ℕ → Type 0
AllOrNone h [] behind = behind ≡ []
AllOrNone h (a ∷ rest) behind = length (a ∷ rest) ≡ slice_count h

-- the streams of a whole frame, each within its limit
pub record Complete (w h : ℕ) (dc ac : List (List ℕ)) (behind : List ℕ) : Type 0 where
  pub size : size_ok w h ≡ true
  pub dc_all : length dc ≡ slice_count h
  pub dc_fit : Within (max_dc_len w) dc
  pub ac_all : AllOrNone h ac behind
  pub ac_fit : Within (max_ac_len w) ac

-- the streams of a kind (true: AC)
abbrev pub of_kind : Bool → List (List ℕ) → List (List ℕ) → List (List ℕ)
of_kind false dc ac = dc
of_kind true dc ac = ac

-- the stream of a slice; question 14: "Slice number below the count .., AC there when wanted"
abbrev pub stream_at : List (List ℕ) → ℕ → Answer (List ℕ)
stream_at [] slice = refused no_turn
stream_at (s ∷ ss) zero = accepted s
stream_at (s ∷ ss) (suc slice) = stream_at ss slice

-- the bytes that the builder's calls put: from where the frame starts up to where the next byte would go
abbrev pub frame_in : ℕ → Built → List ℕ
frame_in at b = take (b.state.at - at) (drop at b.bytes)
