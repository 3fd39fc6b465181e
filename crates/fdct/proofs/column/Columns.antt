-- The rows that the column pass puts into a block are the columns' lanes.
use mathlib.Core.Path.{◌≡◌, refl, ap, ◌∙◌}
use mathlib.Core.List.{List}
use Prim.Native.Nat.{ℕ, zero, suc, ◌+◌, ◌*◌, ◌<◌}
use native.Mathlib.Omega.{arith}
use lib.IntN.{ℤ, pos}
use Rattle.scalar.specs.Tab.{tab, lane}
use Rattle.scalar.proofs.Fill.{get_d_tab}
use Rattle.scalar.proofs.InRows.{row_of_lem, col_of}
use Rattle.lanes.specs.rows.Block.{row_of, block_of}
use Rattle.lanes.proofs.rows.Loops.{row_at_lem, by_place}
use Rattle.frow.specs.Rows.{at}
use Rattle.fdct.specs.column.Steps.{◌▸◌, Sides, Evens, Odds, butterfly_of, forward_even_of, forward_odd_of, forward_column_of}
use Rattle.fdct.specs.column.Rows.{butterfly_rows, forward_even_rows, forward_odd_rows, rows_of}
use Rattle.fdct.specs.declared.column.SideRows.{SideRows}
use Rattle.fdct.specs.declared.column.EvenRows.{EvenRows}
use Rattle.fdct.specs.declared.column.OddRows.{OddRows}
use Rattle.fdct.specs.Forward.{forward_column_at, lane_at, columns_at, forward_columns_of}
use Rattle.fdct.proofs.column.Lanewise.{eq4, eq8}

-- lane k of the rows of a stage
abbrev sides_at : SideRows → ℕ → Sides
sides_at s k = record { tp03 = lane s.tp03 k; tp12 = lane s.tp12 k; tm03 = lane s.tm03 k; tm12 = lane s.tm12 k; d0 = lane s.d0 k; d1 = lane s.d1 k; d2 = lane s.d2 k; d3 = lane s.d3 k }

abbrev evens_at : EvenRows → ℕ → Evens
evens_at s k = record { c0 = lane s.c0 k; c2 = lane s.c2 k; c4 = lane s.c4 k; c6 = lane s.c6 k }

abbrev odds_at : OddRows → ℕ → Odds
odds_at s k = record { c1 = lane s.c1 k; c3 = lane s.c3 k; c5 = lane s.c5 k; c7 = lane s.c7 k }

make_sides : ℤ → ℤ → ℤ → ℤ → ℤ → ℤ → ℤ → ℤ → Sides
make_sides tp03 tp12 tm03 tm12 d0 d1 d2 d3 = record { tp03 = tp03; tp12 = tp12; tm03 = tm03; tm12 = tm12; d0 = d0; d1 = d1; d2 = d2; d3 = d3 }

make_evens : ℤ → ℤ → ℤ → ℤ → Evens
make_evens c0 c2 c4 c6 = record { c0 = c0; c2 = c2; c4 = c4; c6 = c6 }

make_odds : ℤ → ℤ → ℤ → ℤ → Odds
make_odds c1 c3 c5 c7 = record { c1 = c1; c3 = c3; c5 = c5; c7 = c7 }

in_tab : (f : ℕ → ℤ) (k : ℕ) → k < 8 → lane (tab 8 f) k ≡ f k
in_tab f k h = get_d_tab 8 f k (pos 0) h

place : (b : List ℤ) (r k j : ℕ) → k < 8 → j ≡ 8 * r + k → lane (row_of b r) k ≡ at b j
place b r k j h e = row_at_lem b r k h ∙ rw e refl

module _ (shift : ℕ) (b : List ℤ) (k : ℕ) (small : k < 8) where
  sides_at_lem : {s : SideRows} → s ≡ butterfly_rows (row_of b 0) (row_of b 1) (row_of b 2) (row_of b 3) (row_of b 4) (row_of b 5) (row_of b 6) (row_of b 7) → sides_at s k ≡ butterfly_of (at b k) (at b (k + 8)) (at b (k + 16)) (at b (k + 24)) (at b (k + 32)) (at b (k + 40)) (at b (k + 48)) (at b (k + 56))
  unfolding butterfly_rows make_sides
  sides_at_lem e =
      ap (λ (s : SideRows). sides_at s k) e
      ∙ eq8 make_sides (in_tab _ k small) (in_tab _ k small) (in_tab _ k small) (in_tab _ k small) (in_tab _ k small) (in_tab _ k small) (in_tab _ k small) (in_tab _ k small)
      ∙ eq8 butterfly_of (place b 0 k k small (omega arith)) (place b 1 k (k + 8) small (omega arith)) (place b 2 k (k + 16) small (omega arith)) (place b 3 k (k + 24) small (omega arith)) (place b 4 k (k + 32) small (omega arith)) (place b 5 k (k + 40) small (omega arith)) (place b 6 k (k + 48) small (omega arith)) (place b 7 k (k + 56) small (omega arith))

  evens_at_lem : (s : Sides) (p q m n : List ℤ) {e : EvenRows} → lane p k ≡ s.tp03 → lane q k ≡ s.tp12 → lane m k ≡ s.tm03 → lane n k ≡ s.tm12
      → e ≡ forward_even_rows shift p q m n → evens_at e k ≡ forward_even_of shift s.tp03 s.tp12 s.tm03 s.tm12
  unfolding forward_even_rows make_evens
  evens_at_lem s p q m n e0 e1 e2 e3 e =
      ap (λ (r : EvenRows). evens_at r k) e ∙ eq4 make_evens (in_tab _ k small) (in_tab _ k small) (in_tab _ k small) (in_tab _ k small) ∙ eq4 (forward_even_of shift) e0 e1 e2 e3

  odds_at_lem : (s : Sides) (p q m n : List ℤ) {e : OddRows} → lane p k ≡ s.d0 → lane q k ≡ s.d1 → lane m k ≡ s.d2 → lane n k ≡ s.d3
      → e ≡ forward_odd_rows shift p q m n → odds_at e k ≡ forward_odd_of shift s.d0 s.d1 s.d2 s.d3
  unfolding forward_odd_rows make_odds
  odds_at_lem s p q m n e0 e1 e2 e3 e =
      ap (λ (r : OddRows). odds_at r k) e ∙ eq4 make_odds (in_tab _ k small) (in_tab _ k small) (in_tab _ k small) (in_tab _ k small) ∙ eq4 (forward_odd_of shift) e0 e1 e2 e3

module _ (shift : ℕ) (b : List ℤ) {s : SideRows} {e : EvenRows} {o : OddRows}
    (es : s ≡ butterfly_rows (row_of b 0) (row_of b 1) (row_of b 2) (row_of b 3) (row_of b 4) (row_of b 5) (row_of b 6) (row_of b 7))
    (ee : e ≡ forward_even_rows shift s.tp03 s.tp12 s.tm03 s.tm12)
    (eo : o ≡ forward_odd_rows shift s.d0 s.d1 s.d2 s.d3) where
  lanes_at : (k : ℕ) → k < 8 → (r : ℕ) → lane (rows_of e o r) k ≡ lane_at (forward_column_at shift b k) r
  unfolding forward_column_of ◌▸◌
  lanes_at k h r = go r
    where
      S : sides_at s k ≡ butterfly_of (at b k) (at b (k + 8)) (at b (k + 16)) (at b (k + 24)) (at b (k + 32)) (at b (k + 40)) (at b (k + 48)) (at b (k + 56))
      S = sides_at_lem shift b k h es

      E : evens_at e k ≡ forward_even_of shift (butterfly_of (at b k) (at b (k + 8)) (at b (k + 16)) (at b (k + 24)) (at b (k + 32)) (at b (k + 40)) (at b (k + 48)) (at b (k + 56))).tp03 (butterfly_of (at b k) (at b (k + 8)) (at b (k + 16)) (at b (k + 24)) (at b (k + 32)) (at b (k + 40)) (at b (k + 48)) (at b (k + 56))).tp12 (butterfly_of (at b k) (at b (k + 8)) (at b (k + 16)) (at b (k + 24)) (at b (k + 32)) (at b (k + 40)) (at b (k + 48)) (at b (k + 56))).tm03 (butterfly_of (at b k) (at b (k + 8)) (at b (k + 16)) (at b (k + 24)) (at b (k + 32)) (at b (k + 40)) (at b (k + 48)) (at b (k + 56))).tm12
      E = evens_at_lem shift b k h (butterfly_of (at b k) (at b (k + 8)) (at b (k + 16)) (at b (k + 24)) (at b (k + 32)) (at b (k + 40)) (at b (k + 48)) (at b (k + 56))) s.tp03 s.tp12 s.tm03 s.tm12 (ap (λ (v : Sides). v.tp03) S) (ap (λ (v : Sides). v.tp12) S) (ap (λ (v : Sides). v.tm03) S) (ap (λ (v : Sides). v.tm12) S) ee

      O : odds_at o k ≡ forward_odd_of shift (butterfly_of (at b k) (at b (k + 8)) (at b (k + 16)) (at b (k + 24)) (at b (k + 32)) (at b (k + 40)) (at b (k + 48)) (at b (k + 56))).d0 (butterfly_of (at b k) (at b (k + 8)) (at b (k + 16)) (at b (k + 24)) (at b (k + 32)) (at b (k + 40)) (at b (k + 48)) (at b (k + 56))).d1 (butterfly_of (at b k) (at b (k + 8)) (at b (k + 16)) (at b (k + 24)) (at b (k + 32)) (at b (k + 40)) (at b (k + 48)) (at b (k + 56))).d2 (butterfly_of (at b k) (at b (k + 8)) (at b (k + 16)) (at b (k + 24)) (at b (k + 32)) (at b (k + 40)) (at b (k + 48)) (at b (k + 56))).d3
      O = odds_at_lem shift b k h (butterfly_of (at b k) (at b (k + 8)) (at b (k + 16)) (at b (k + 24)) (at b (k + 32)) (at b (k + 40)) (at b (k + 48)) (at b (k + 56))) s.d0 s.d1 s.d2 s.d3 (ap (λ (v : Sides). v.d0) S) (ap (λ (v : Sides). v.d1) S) (ap (λ (v : Sides). v.d2) S) (ap (λ (v : Sides). v.d3) S) eo

      go : (r : ℕ) → lane (rows_of e o r) k ≡ lane_at (forward_column_at shift b k) r
      go zero = ap (λ (v : Evens). v.c0) E
      go (suc zero) = ap (λ (v : Odds). v.c1) O
      go (suc (suc zero)) = ap (λ (v : Evens). v.c2) E
      go (suc (suc (suc zero))) = ap (λ (v : Odds). v.c3) O
      go (suc (suc (suc (suc zero)))) = ap (λ (v : Evens). v.c4) E
      go (suc (suc (suc (suc (suc zero))))) = ap (λ (v : Odds). v.c5) O
      go (suc (suc (suc (suc (suc (suc zero)))))) = ap (λ (v : Evens). v.c6) E
      go (suc (suc (suc (suc (suc (suc (suc r))))))) = ap (λ (v : Odds). v.c7) O

  pub columns_law : block_of (rows_of e o) ≡ forward_columns_of shift b
  unfolding forward_columns_of
  columns_law = by_place (rows_of e o) (columns_at shift b) (λ r k g h. lanes_at k h r ∙ rw (row_of_lem r k h, col_of r k h) refl)
