-- What the code's results say, in the definitions' terms.
use Rattle.std.specs.Prelude.{ℕ, Result, Ok, Err}
use Rattle.ask.specs.Ask.{Answer, refused, accepted}
use Rattle.ask.specs.Numbers.{no_preset, no_shift, no_plane, no_stride, no_rows, no_room, no_start, no_code, no_size, no_bytes, no_format, no_count, no_limit, no_turn}
use Rattle.ask.specs.declared.refusal.Refusal.{Refusal}
use Rattle.ask.specs.declared.refusal.Refusal.TheVariants as no

-- a refusal's number
abbrev pub number_of : Refusal → ℕ
number_of no.Preset = no_preset
number_of no.Shift = no_shift
number_of no.Plane = no_plane
number_of no.Stride = no_stride
number_of no.Rows = no_rows
number_of no.Room = no_room
number_of no.Start = no_start
number_of no.Code = no_code
number_of no.Size = no_size
number_of no.Bytes = no_bytes
number_of no.Format = no_format
number_of no.Count = no_count
number_of no.Limit = no_limit
number_of no.Turn = no_turn

-- the number that questions gave: that of the first "no", 0 where all were answered yes
abbrev pub given : {A : Type 0} → Result A Refusal → ℕ
given (Ok a) = 0
given (Err e) = number_of e

-- an answer as the definitions have it, its value by f
abbrev pub answer : {A B : Type 0} → (A → B) → Result A Refusal → Answer B
answer f (Ok a) = accepted (f a)
answer f (Err e) = refused (number_of e)
