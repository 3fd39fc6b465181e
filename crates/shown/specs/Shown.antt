-- Shown rows. Document 01, 'Frame': the slice's 16 rows out of the new picture if accepted, out of the held one if not.
use Rattle.std.specs.Prelude.{Bool, true, false, ◌&&◌, cond, List, [], ◌∷◌, ℕ, ◌+◌, ◌*◌, leb, ltb, eqb, length, take, drop}
use Rattle.ask.specs.Ask.{Answer, refused, accepted, Question, ask, asked, number_in}
use Rattle.ask.specs.Limits.{stride_ok, rows_needed, slices_max}
use Rattle.ask.specs.Numbers.{no_stride, no_rows, no_turn}

abbrev pub slice_samples : ℕ → ℕ
slice_samples stride = rows_needed stride

-- the slice's verdict is the number that its reading call gave: 0 is accepted
abbrev pub was_accepted : ℕ → Bool
was_accepted verdict = eqb verdict 0

abbrev pub picked : {A : Type 0} → Bool → A → A → A
picked true new held = new
picked false new held = held

-- "Rows .. (shown rows: up to the slice's end in both pictures)": the samples up to the end of slice number `slice`
abbrev pub up_to_end : ℕ → ℕ → ℕ
up_to_end stride slice = (slice + 1) * slice_samples stride

-- question 5, of both pictures, which have so many samples
abbrev pub both_reach : ℕ → ℕ → ℕ → ℕ → Bool
both_reach stride slice new held = leb (up_to_end stride slice) new && leb (up_to_end stride slice) held

-- "Slice number below the count (shown rows: below 270)"
unfoldable pub shown_questions : ℕ → ℕ → ℕ → ℕ → List Question
shown_questions stride slice new held =
    ask (stride_ok stride) no_stride ∷ ask (both_reach stride slice new held) no_rows ∷ ask (ltb slice slices_max) no_turn ∷ []

-- the slice's 16 rows
abbrev pub slice_rows : {A : Type 0} → ℕ → ℕ → List A → List A
slice_rows stride slice picture = take (slice_samples stride) (drop (slice * slice_samples stride) picture)

unfoldable pub shown_of : {A : Type 0} → ℕ → ℕ → ℕ → List A → List A → Answer (List A)
shown_of stride slice verdict new held =
    asked (shown_questions stride slice (length new) (length held))
    (accepted (slice_rows stride slice (picked (was_accepted verdict) new held)))

-- "an empty part for a view"
abbrev pub shown_part : Answer (List ℕ) → List ℕ
shown_part (refused n) = []
shown_part (accepted l) = l

-- what a call hands out: the number, and the rows
pub record Shown : Type 0 where
  pub number : ℕ
  pub rows : List ℕ

abbrev pub shown_as : ℕ → List ℕ → Shown
shown_as n rows = record { number = n; rows = rows }

abbrev pub rows_handed : Answer (List ℕ) → Shown
rows_handed a = shown_as (number_in a) (shown_part a)

-- "a second call picks the time likewise"
unfoldable pub time_of : ℕ → ℕ → ℕ → ℕ
time_of verdict new held = cond (was_accepted verdict) new held
