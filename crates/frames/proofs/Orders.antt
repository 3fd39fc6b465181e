-- The builder's questions at their limits, and their order.
use mathlib.Core.Path.{◌≡◌, refl}
use mathlib.Core.Bool.{true}
use mathlib.Core.List.{List, [], ◌∷◌}
use Prim.Native.Nat.{ℕ}
use lib.Dec.{eqb}
use lib.ListN.{get_or}
use Rattle.ask.specs.Ask.{first_no}
use Rattle.ask.proofs.AtLimits.{no, limits, holds}
use Rattle.builder.specs.Build.{start_questions}
use Rattle.builder.specs.streams.Put.{stream_questions}

-- a header: width, height, shift, the buffer's length, where the header goes
unfoldable of_start : List ℕ → ℕ
of_start l = let at : ℕ → ℕ = λ k. get_or l k 0 in first_no (start_questions (at 0) (at 1) (at 2) (at 3) (at 4))

-- 5 bytes with a shift, 3 without; a start may be above 16,777,215
start_limits : holds of_start
    (limits (16 ∷ 16 ∷ 15 ∷ 15 ∷ 10 ∷ []) (no 2 2 16 ∷ no 6 3 14 ∷ no 6 4 11 ∷ no 9 0 14 ∷ no 9 0 15 ∷ no 9 1 15 ∷ [])
    ∷ limits (7680 ∷ 4320 ∷ 0 ∷ 13 ∷ 10 ∷ []) (no 2 2 16 ∷ no 6 2 1 ∷ no 6 3 12 ∷ no 6 4 11 ∷ no 9 0 7682 ∷ no 9 1 4321 ∷ [])
    ∷ limits (16 ∷ 16 ∷ 1 ∷ 16777221 ∷ 16777216 ∷ []) (no 6 4 16777217 ∷ [])
    ∷ [])
    ≡ true
unfolding of_start first_no start_questions
start_limits = refl

-- a stream: width, height; of the state 1 where the AC streams have their turn, next slice and place; 1 for an AC stream, its slice, its
-- bytes, the buffer's length
unfoldable of_stream : List ℕ → ℕ
of_stream l =
    let at : ℕ → ℕ = λ k. get_or l k 0 in
    first_no
    (stream_questions (at 0) (at 1)
    (record { ac_turn = eqb (at 2) 1; next = at 3; at = at 4 })
    (eqb (at 5) 1) (at 6) (at 7) (at 8))

-- a stream needs room for its length word too; a width of 16 allows 512 bytes of DC and 896 of AC, one of 18 has a
-- stride of 24, a height of 48 has three slices
stream_limits : holds of_stream
    (limits (16 ∷ 48 ∷ 0 ∷ 1 ∷ 10 ∷ 0 ∷ 1 ∷ 512 ∷ 526 ∷ []) (no 6 8 525 ∷ no 6 4 11 ∷ no 9 0 15 ∷ no 9 1 15 ∷ no 14 5 1 ∷ [])
    ∷ limits (16 ∷ 48 ∷ 0 ∷ 1 ∷ 10 ∷ 0 ∷ 1 ∷ 512 ∷ 999 ∷ []) (no 6 8 525 ∷ no 9 0 17 ∷ no 9 1 4321 ∷ no 13 7 513 ∷ no 14 1 16 ∷ no 14 2 1 ∷ no 14 3 0 ∷ no 14 6 2 ∷ [])
    ∷ limits (16 ∷ 48 ∷ 1 ∷ 2 ∷ 10 ∷ 1 ∷ 2 ∷ 896 ∷ 999 ∷ []) (no 6 8 909 ∷ no 9 0 7682 ∷ no 9 1 15 ∷ no 13 7 897 ∷ no 14 1 32 ∷ no 14 2 0 ∷ no 14 3 3 ∷ no 14 6 1 ∷ [])
    ∷ limits (18 ∷ 48 ∷ 0 ∷ 1 ∷ 10 ∷ 0 ∷ 1 ∷ 768 ∷ 999 ∷ []) (no 13 7 769 ∷ [])
    ∷ limits (18 ∷ 48 ∷ 1 ∷ 2 ∷ 10 ∷ 1 ∷ 2 ∷ 1344 ∷ 1358 ∷ []) (no 6 8 1357 ∷ [])
    ∷ [])
    ≡ true
unfolding of_stream first_no stream_questions
stream_limits = refl
