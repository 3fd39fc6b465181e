-- The builder's state, the place of shown rows and the table of streams, as numbers. Document 01, 'Frame'.
use Rattle.std.specs.Prelude.{Bool, List, [], ℕ, ◌*◌, take, drop}
use Rattle.ask.specs.Ask.{Answer, refused, accepted, asked}
use Rattle.builder.specs.Build.{Build}
use Rattle.shown.specs.Shown.{shown_questions, slice_samples, was_accepted, picked}
use Rattle.views.specs.Table.{Views}
use Rattle.outs.specs.frame.Outs.{is_on, flag_of, Handed, handed_by, FramePlaces, frame_parts}

-- the builder's state out of the numbers that the caller holds
abbrev pub state_of : ℕ → ℕ → ℕ → Build
state_of ac_turn next at = record { ac_turn = is_on ac_turn; next = next; at = at }

-- in which of the two pictures the slice's rows lie, and where
pub record ShownAt : Type 0 where
  pub from_new : Bool
  pub offset : ℕ
  pub size : ℕ

-- "the slice's 16 rows out of the new one if accepted, out of the held one if not", for pictures of these lengths
unfoldable pub shown_at : ℕ → ℕ → ℕ → ℕ → ℕ → Answer ShownAt
shown_at stride slice verdict new held =
    asked (shown_questions stride slice new held)
    (accepted (record { from_new = was_accepted verdict; offset = slice * slice_samples stride; size = slice_samples stride }))

-- the part of one of the two pictures that an answer names; "an empty part" on refusal
abbrev pub part_of : Answer ShownAt → List ℕ → List ℕ → List ℕ
part_of (refused n) new held = []
part_of (accepted s) new held = take s.size (drop s.offset (picked s.from_new new held))

-- the places that are lent for it
pub record ShownPlaces : Type 0 where
  pub from_new : ℕ
  pub offset : ℕ
  pub size : ℕ

abbrev pub shown_places : ℕ → ℕ → ℕ → ShownPlaces
shown_places from_new offset size = record { from_new = from_new; offset = offset; size = size }

abbrev pub shown_parts : ShownAt → ShownPlaces
shown_parts s = shown_places (flag_of s.from_new) s.offset s.size

-- on refusal: "an empty part"; which picture stays as it was
abbrev pub nothing_shown : ℕ → ShownPlaces
nothing_shown from_new = shown_places from_new 0 0

-- the call for all streams: what it hands out of the header, and the table
pub record Streams : Type 0 where
  pub table : List ℕ
  pub header : Handed FramePlaces

abbrev pub streams_as : List ℕ → Handed FramePlaces → Streams
streams_as table header = record { table = table; header = header }

-- the header's parts by the answer, or what stood there; and the table
abbrev pub streams_by : Views → FramePlaces → Streams
streams_by v was = streams_as v.table (handed_by v.answer frame_parts was)
