-- Any calls to the builder, refused ones among them, of one width and height. Document 01, 'Frame'.
use Rattle.std.specs.Prelude.{Bool, true, false, ◌&&◌, ◌||◌, List, [], ◌∷◌, ◌++◌, ℕ, eqb}
use Rattle.ask.specs.Ask.{Answer, refused, accepted}
use Rattle.builder.specs.Build.{Built}
use Rattle.builder.specs.streams.Put.{stream_of}

-- a call for a stream, "named by its kind .. and slice number"
pub record PutCall : Type 0 where
  pub ac : Bool
  pub slice : ℕ
  pub stream : List ℕ

abbrev pub answer_to : ℕ → ℕ → PutCall → Built → Answer Built
answer_to w h c b = stream_of w h b.state c.ac c.slice c.stream b.bytes

-- a refused call leaves state and buffer as they were
abbrev pub kept : Built → Answer Built → Built
kept b (refused n) = b
kept b (accepted next) = next

unfoldable pub after_calls : ℕ → ℕ → List PutCall → Built → Built
after_calls w h [] b = b
after_calls w h (c ∷ cs) b = after_calls w h cs (kept b (answer_to w h c b))

-- the streams of a kind (true: AC) that were accepted, in their order
abbrev pub of_this_kind : Bool → Bool → List ℕ → List (List ℕ)
of_this_kind false false s = s ∷ []
of_this_kind false true s = []
of_this_kind true false s = []
of_this_kind true true s = s ∷ []

abbrev pub taken : Bool → PutCall → Answer Built → List (List ℕ)
taken kind c (refused n) = []
taken kind c (accepted next) = of_this_kind kind c.ac c.stream

unfoldable pub all_taken : ℕ → ℕ → Bool → List PutCall → Built → List (List ℕ)
all_taken w h kind [] b = []
all_taken w h kind (c ∷ cs) b = taken kind c (answer_to w h c b) ++ all_taken w h kind cs (kept b (answer_to w h c b))

-- so many DC and AC streams are those of all slices, the AC streams also of none
abbrev pub whole_counts : ℕ → ℕ → ℕ → Bool
whole_counts slices dc ac = eqb dc slices && (eqb ac 0 || eqb ac slices)

-- AC streams are there
abbrev pub any_stream : List (List ℕ) → Bool
any_stream [] = false
any_stream (s ∷ ss) = true
