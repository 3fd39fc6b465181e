-- The question about a table of views at its limit, and its order: it is put after question 9 and before the others about the frame.
use mathlib.Core.Path.{◌≡◌, refl}
use mathlib.Core.Bool.{true}
use mathlib.Core.List.{List, [], ◌∷◌}
use Prim.Native.Nat.{ℕ}
use lib.ListN.{get_or, replicate}
use Rattle.ask.specs.Ask.{first_no, asked, number_in}
use Rattle.ask.proofs.AtLimits.{no, limits, holds}
use Rattle.parser.specs.streams.Streams.{length_at, one_stream, streams}
use Rattle.parser.specs.head.Header.{header_questions}
use Rattle.parser.specs.Frame.{parse_of}
use Rattle.views.specs.Table.{tabled_of}

-- width, height, numbers in the table, the frame's count of slices, all of them empty
unfoldable of_table : List ℕ → ℕ
of_table l =
    let at : ℕ → ℕ = λ k. get_or l k 0 in
    number_in (tabled_of (at 0) (at 1) (1 ∷ 36 ∷ at 3 ∷ replicate 8 0) (at 2))

-- four numbers a slice
table_limits : holds of_table
    (limits (16 ∷ 16 ∷ 4 ∷ 1 ∷ []) (no 9 0 15 ∷ no 5 2 3 ∷ no 12 3 2 ∷ [])
    ∷ limits (16 ∷ 17 ∷ 8 ∷ 2 ∷ []) (no 9 0 15 ∷ no 5 2 7 ∷ no 12 3 1 ∷ [])
    ∷ [])
    ≡ true
unfolding of_table tabled_of parse_of header_questions streams one_stream length_at asked first_no
table_limits = refl
