-- The questions of a frame at their limits, and their order: "9, 10 (five bytes), 11, 2, 12, then stream by stream 10 (length), 13,
-- 10 (bytes), and 14 last".
use mathlib.Core.Path.{◌≡◌, refl}
use mathlib.Core.Bool.{true}
use mathlib.Core.List.{List, [], ◌∷◌, ◌++◌}
use Prim.Native.Nat.{ℕ, ◌/◌, ◌%◌}
use lib.Dec.{eqb}
use lib.ListN.{get_or, take, replicate}
use Rattle.ask.specs.Ask.{first_no, asked, number_in}
use Rattle.ask.proofs.AtLimits.{Broken, no, limits, holds}
use Rattle.parser.specs.streams.Streams.{length_at, one_stream, streams}
use Rattle.parser.specs.head.Header.{header_questions}
use Rattle.parser.specs.Frame.{parse_of, nth_stream, view_of}

abbrev word : ℕ → List ℕ
word n = n % 256 ∷ n / 256 ∷ 0 ∷ 0 ∷ []

-- the first bytes of a frame: so many of the header's five, a DC stream and an AC stream after these lengths
abbrev frame : ℕ → ℕ → List ℕ → ℕ → ℕ → List ℕ
frame total long header dc ac = take total (take long header ++ (word dc ++ (replicate 512 7 ++ (word ac ++ replicate 896 7))))

-- the view of a stream: width, height, slice, 1 for AC, the frame's bytes, the header's, five bytes of it, both lengths
unfoldable of_view : List ℕ → ℕ
of_view l =
    let at : ℕ → ℕ = λ k. get_or l k 0 in
    number_in (view_of (at 0) (at 1) (frame (at 4) (at 5) (at 6 ∷ at 7 ∷ at 8 ∷ at 9 ∷ at 10 ∷ []) (at 11) (at 12)) (eqb (at 3) 1) (at 2))

-- of a frame whose header has five bytes
abbrev header_broken : List Broken
header_broken =
    no 9 0 14 ∷ no 9 0 15 ∷ no 9 0 7682 ∷ no 9 1 15 ∷ no 9 1 4321
    ∷ no 10 4 4
    ∷ no 11 6 0 ∷ no 11 6 4
    ∷ no 2 7 16
    ∷ no 12 10 0 ∷ no 12 10 2
    ∷ []

-- a frame of 16 by 16 has one slice, of at most 512 bytes of DC and 896 of AC; a short header has no shift to ask about
frame_limits : holds of_view
    (limits (16 ∷ 16 ∷ 0 ∷ 1 ∷ 1421 ∷ 5 ∷ 3 ∷ 15 ∷ 1 ∷ 99 ∷ 1 ∷ 512 ∷ 896 ∷ [])
    (header_broken ++ (no 10 4 8 ∷ no 13 11 513 ∷ no 10 4 520 ∷ no 10 4 522 ∷ no 10 4 524 ∷ no 13 12 897 ∷ no 10 4 1420 ∷ no 14 2 1 ∷ []))
    ∷ limits (16 ∷ 16 ∷ 0 ∷ 0 ∷ 521 ∷ 5 ∷ 3 ∷ 15 ∷ 1 ∷ 99 ∷ 1 ∷ 512 ∷ 896 ∷ [])
    (header_broken ++ (no 10 4 8 ∷ no 13 11 513 ∷ no 10 4 520 ∷ no 10 4 522 ∷ no 14 2 1 ∷ no 14 3 1 ∷ []))
    ∷ limits (16 ∷ 16 ∷ 0 ∷ 1 ∷ 1419 ∷ 3 ∷ 1 ∷ 99 ∷ 1 ∷ 0 ∷ 0 ∷ 512 ∷ 896 ∷ []) (no 11 6 0 ∷ no 12 8 2 ∷ no 13 11 513 ∷ no 13 12 897 ∷ no 10 4 1418 ∷ no 14 2 1 ∷ [])
    ∷ limits (16 ∷ 16 ∷ 0 ∷ 1 ∷ 1419 ∷ 3 ∷ 2 ∷ 99 ∷ 1 ∷ 0 ∷ 0 ∷ 512 ∷ 896 ∷ []) []
    ∷ [])
    ≡ true
unfolding of_view view_of parse_of nth_stream header_questions streams one_stream length_at asked first_no
frame_limits = refl
