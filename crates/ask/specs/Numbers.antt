-- The numbers of the questions, by what a "no" says. Document 01, 'The questions before any work'.
use Rattle.std.specs.Prelude.{ℕ}

-- "Preset 0 to 24? No: 1."
abbrev pub no_preset : ℕ
no_preset = 1

-- "DC shift 0 to 15? No: 2."
abbrev pub no_shift : ℕ
no_shift = 2

-- "Plane place 0 to 3, plane count 1 to 4? No: 3."
abbrev pub no_plane : ℕ
no_plane = 3

-- "Stride a multiple of 8 from 8 to 7,680? No: 4."
abbrev pub no_stride : ℕ
no_stride = 4

-- "Rows at least 16 x stride (shown rows: ..; preview: ..; block report: ..)? No: 5."
abbrev pub no_rows : ℕ
no_rows = 5

-- "Room behind the start for the size call's lengths (builder: for what it writes)? No: 6."
abbrev pub no_room : ℕ
no_room = 6

-- "Starts (not the builder's) at most 16,777,215 and, of streams read only, DC at most 245,760 bytes, AC at most 430,080? No: 7."
abbrev pub no_start : ℕ
no_start = 7

-- "z at most 54 in every code reached? No: 8."
abbrev pub no_code : ℕ
no_code = 8

-- "Width even, 16 to 7,680, height 16 to 4,320? No: 9."
abbrev pub no_size : ℕ
no_size = 9

-- "Five bytes there, each length and stream whole? No: 10."
abbrev pub no_bytes : ℕ
no_bytes = 10

-- "First byte 1, 2 or 3? No: 11."
abbrev pub no_format : ℕ
no_format = 11

-- "Slice count as the layout's? No: 12."
abbrev pub no_count : ℕ
no_count = 12

-- "Stream within its limit? No: 13."
abbrev pub no_limit : ℕ
no_limit = 13

-- "Slice number below the count (shown rows: below 270), AC there when wanted, builder in turn? No: 14."
abbrev pub no_turn : ℕ
no_turn = 14
