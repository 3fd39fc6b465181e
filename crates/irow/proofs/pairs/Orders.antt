-- Which pairs the four orders choose: the one that starts at 0, 4, 2 or 6 and that four places on.
use mathlib.Core.Path.{◌≡◌, refl, sym, ap, ◌∙◌}
use mathlib.Core.List.{List}
use Prim.Native.Nat.{ℕ, ◌+◌, ◌*◌, ◌/◌, ◌%◌, ◌<◌}
use native.Mathlib.Omega.{arith}
use lib.IntN.{ℤ, pos}
use lib.ListN.{get_or}
use Rattle.scalar.specs.Tab.{tab_from, tab, lane}
use Rattle.scalar.proofs.Fill.{get_d_tab}
use Rattle.scalar.proofs.InRows.{row_of_lem, col_of}
use Rattle.shuffles.specs.Shuffles.{selector, pair_place, mm_shuffle_epi32_16}
use Rattle.lanes.specs.rows.Block.{row_of}
use Rattle.lanes.proofs.rows.Loops.{row_at_lem, by_place}
use Rattle.irow.specs.pairs.Pairs.{spread_place, inverse_spread_of, spread_by}

module _ (imm from : ℕ) (e : tab 8 (λ k. pair_place imm k) ≡ tab 8 (λ k. spread_place from k)) where
  place : (k : ℕ) → k < 8 → pair_place imm k ≡ spread_place from k
  place k h = sym (get_d_tab 8 (λ k. pair_place imm k) k 0 h) ∙ ap (λ (l : List ℕ). get_or l k 0) e ∙ get_d_tab 8 (λ k. spread_place from k) k 0 h

  lane_at_lem : (a : List ℤ) (r k : ℕ) → k < 8 → spread_place from k < 8 → lane (mm_shuffle_epi32_16 (row_of a r) imm) k ≡ lane a (8 * r + spread_place from k)
  unfolding mm_shuffle_epi32_16
  lane_at_lem a r k h l =
      get_d_tab 8 (λ k. lane (row_of a r) (pair_place imm k)) k (pos 0) h ∙ ap (lane (row_of a r)) (place k h) ∙ row_at_lem a r (spread_place from k) l

  law : (a : List ℤ) → ((k : ℕ) → k < 8 → spread_place from k < 8) → spread_by a imm ≡ inverse_spread_of a from
  unfolding spread_by inverse_spread_of
  law a s =
      by_place (λ r. mm_shuffle_epi32_16 (row_of a r) imm) (λ i. lane a (8 * (i / 8) + spread_place from (i % 8)))
      (λ r k hr hk. lane_at_lem a r k hk (s k hk) ∙ rw (row_of_lem r k hk, col_of r k hk) refl)

pub spread_0 : (a : List ℤ) → spread_by a 136 ≡ inverse_spread_of a 0
unfolding pair_place selector tab_from
spread_0 a = law 136 0 refl a (λ k h. omega arith)

pub spread_4 : (a : List ℤ) → spread_by a 34 ≡ inverse_spread_of a 4
unfolding pair_place selector tab_from
spread_4 a = law 34 4 refl a (λ k h. omega arith)

pub spread_2 : (a : List ℤ) → spread_by a 221 ≡ inverse_spread_of a 2
unfolding pair_place selector tab_from
spread_2 a = law 221 2 refl a (λ k h. omega arith)

pub spread_6 : (a : List ℤ) → spread_by a 119 ≡ inverse_spread_of a 6
unfolding pair_place selector tab_from
spread_6 a = law 119 6 refl a (λ k h. omega arith)
