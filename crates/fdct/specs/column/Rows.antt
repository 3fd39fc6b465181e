-- The steps of the column pass on rows of eight lanes: each lane goes through the steps of its column.
use Rattle.std.specs.Prelude.{List, ℕ, zero, suc, ℤ}
use Rattle.scalar.specs.Tab.{tab, lane}
use Rattle.fdct.specs.column.Steps.{Sides, Evens, Odds, butterfly_of, forward_even_of, forward_odd_of}
use Rattle.fdct.specs.declared.column.SideRows.{SideRows}
use Rattle.fdct.specs.declared.column.EvenRows.{EvenRows}
use Rattle.fdct.specs.declared.column.OddRows.{OddRows}

-- eight columns as rows
abbrev pub side_rows : (ℕ → Sides) → SideRows
side_rows v = record { tp03 = tab 8 (λ k. (v k).tp03); tp12 = tab 8 (λ k. (v k).tp12); tm03 = tab 8 (λ k. (v k).tm03); tm12 = tab 8 (λ k. (v k).tm12); d0 = tab 8 (λ k. (v k).d0); d1 = tab 8 (λ k. (v k).d1); d2 = tab 8 (λ k. (v k).d2); d3 = tab 8 (λ k. (v k).d3) }

abbrev pub even_rows : (ℕ → Evens) → EvenRows
even_rows v = record { c0 = tab 8 (λ k. (v k).c0); c2 = tab 8 (λ k. (v k).c2); c4 = tab 8 (λ k. (v k).c4); c6 = tab 8 (λ k. (v k).c6) }

abbrev pub odd_rows : (ℕ → Odds) → OddRows
odd_rows v = record { c1 = tab 8 (λ k. (v k).c1); c3 = tab 8 (λ k. (v k).c3); c5 = tab 8 (λ k. (v k).c5); c7 = tab 8 (λ k. (v k).c7) }

unfoldable pub butterfly_rows : List ℤ → List ℤ → List ℤ → List ℤ → List ℤ → List ℤ → List ℤ → List ℤ → SideRows
butterfly_rows x0 x1 x2 x3 x4 x5 x6 x7 = side_rows (λ k. butterfly_of (lane x0 k) (lane x1 k) (lane x2 k) (lane x3 k) (lane x4 k) (lane x5 k) (lane x6 k) (lane x7 k))

unfoldable pub forward_even_rows : ℕ → List ℤ → List ℤ → List ℤ → List ℤ → EvenRows
forward_even_rows shift tp03 tp12 tm03 tm12 = even_rows (λ k. forward_even_of shift (lane tp03 k) (lane tp12 k) (lane tm03 k) (lane tm12 k))

unfoldable pub forward_odd_rows : ℕ → List ℤ → List ℤ → List ℤ → List ℤ → OddRows
forward_odd_rows shift d0 d1 d2 d3 = odd_rows (λ k. forward_odd_of shift (lane d0 k) (lane d1 k) (lane d2 k) (lane d3 k))

-- row r of the column pass
abbrev pub rows_of : EvenRows → OddRows → ℕ → List ℤ
rows_of e o zero = e.c0
rows_of e o (suc zero) = o.c1
rows_of e o (suc (suc zero)) = e.c2
rows_of e o (suc (suc (suc zero))) = o.c3
rows_of e o (suc (suc (suc (suc zero)))) = e.c4
rows_of e o (suc (suc (suc (suc (suc zero))))) = o.c5
rows_of e o (suc (suc (suc (suc (suc (suc zero)))))) = e.c6
rows_of e o (suc (suc (suc (suc (suc (suc (suc r))))))) = o.c7
