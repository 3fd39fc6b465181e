-- `fdct::level_shift::level`: each row with the level added, lane by lane. Assumes nothing.
use Rattle.std.proofs.Common.{rules}
use mathlib.Core.Path.{◌≡◌, ap, ◌∙◌}
use mathlib.Core.List.{List}
use Prim.Native.Nat.{ℕ}
use lib.IntN.{ℤ, pos}
use mir.Facts.{to_z-of_z}
use Rattle.scalar.specs.Scalar.{adds_of}
use Rattle.scalar.specs.Tab.{lane}
use Rattle.scalar.proofs.Fill.{get_d_tab}
use Rattle.lanes.specs.Lanes.{mm_set1_epi16, mm_adds_epi16}
use Rattle.lanes.specs.rows.Block.{row_of, block_of}
use Rattle.lanes.proofs.rows.Loops.{row_at_lem, by_place, by_rows}
use Rattle.fdct.specs.level_shift.Level.{level_at, level_shift_of}
use Rattle.fdct.proofs.level_shift.level.Goals as goal

-- row r, the level added
levelled : List ℤ → List ℤ → ℕ → List ℤ
levelled b adding r = mm_adds_epi16 (row_of b r) adding

level_law : (b : List ℤ) (add : ℤ) → block_of (levelled b (mm_set1_epi16 add)) ≡ level_shift_of add b
unfolding levelled level_shift_of mm_adds_epi16 mm_set1_epi16
level_law b add =
    by_place (levelled b (mm_set1_epi16 add)) (level_at add b)
    (λ r k g h.
    get_d_tab 8 (λ i. adds_of (lane (row_of b r) i) (lane (mm_set1_epi16 add) i)) k (pos 0) h
    ∙ ap (λ (z : ℤ). adds_of z (lane (mm_set1_epi16 add) k)) (row_at_lem b r k h)
    ∙ ap (adds_of _) (get_d_tab 8 (λ i. add) k (pos 0) h))

pub returns : goal.returns
unfolding levelled
returns c =
    by_rows c.each_of_two.result (levelled c.args.b c.splat-adding.result) (search rules) c.each_of_two.ensures
    ∙ ap (λ (y : List ℤ). block_of (levelled c.args.b y)) (c.splat-adding.ensures ∙ ap mm_set1_epi16 (to_z-of_z c.ranges.add))
    ∙ level_law c.args.b c.args.add
