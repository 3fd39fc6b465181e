-- Eight rows put into a block one after the other.
use mathlib.Core.Path.{◌≡◌, refl}
use mathlib.Core.List.{List}
use Prim.Native.Nat.{ℕ}
use native.Mathlib.Omega.{arith}
use lib.IntN.{ℤ, pos}
use lib.ListN.{replicate}
use Rattle.lanes.specs.rows.Block.{put_of, block_of}
use Rattle.lanes.proofs.rows.Loops.{RowsPut, put_turn, put_done}

module _ (g : ℕ → List ℤ) where
  begin : {c : List ℤ} → c ≡ replicate 64 (pos 0) → RowsPut g c 0
  begin q = rw q (omega arith, (refl, refl))

  pub eight_put : {c0 c1 c2 c3 c4 c5 c6 c7 c8 : List ℤ} → c0 ≡ replicate 64 (pos 0)
      → c1 ≡ put_of c0 0 (g 0) → c2 ≡ put_of c1 1 (g 1) → c3 ≡ put_of c2 2 (g 2) → c4 ≡ put_of c3 3 (g 3) → c5 ≡ put_of c4 4 (g 4) → c6 ≡ put_of c5 5 (g 5) → c7 ≡ put_of c6 6 (g 6) → c8 ≡ put_of c7 7 (g 7)
      → c8 ≡ block_of g
  eight_put {c0} {c1} {c2} {c3} {c4} {c5} {c6} {c7} {c8} e0 e1 e2 e3 e4 e5 e6 e7 e8 =
      put_done g c8 8 (omega arith)
      (put_turn g c7 7 (omega arith) (put_turn g c6 6 (omega arith) (put_turn g c5 5 (omega arith) (put_turn g c4 4 (omega arith) (put_turn g c3 3 (omega arith) (put_turn g c2 2 (omega arith) (put_turn g c1 1 (omega arith) (put_turn g c0 0 (omega arith) (begin e0) e1 refl) e2 refl) e3 refl) e4 refl) e5 refl) e6 refl) e7 refl) e8 refl)
