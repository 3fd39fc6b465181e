-- The scan is a permutation of the 64 places.
use mathlib.Core.Path.{◌≡◌, refl}
use mathlib.Core.Bool.{Bool}
use Prim.Native.Nat.{ℕ, ◌<◌}
use lib.Dec.{T, eqb, ltb, eqb→eq, ltb→lt}
use Rattle.tables.specs.Zigzag.{zigzag, unzigzag, zigzag_at, unzigzag_at}
use Rattle.tables.proofs.Every.{both, both_left, both_right, every_from, every}

there : ℕ → Bool
there i = both (eqb (unzigzag_at (zigzag_at i)) i) (ltb (zigzag_at i) 64)

back : ℕ → Bool
back j = both (eqb (zigzag_at (unzigzag_at j)) j) (ltb (unzigzag_at j) 64)

all_there : T (every_from there 0 64)
unfolding there zigzag unzigzag
all_there = tt

all_back : T (every_from back 0 64)
unfolding back zigzag unzigzag
all_back = tt

pub unzigzag_zigzag : (i : ℕ) → i < 64 → unzigzag_at (zigzag_at i) ≡ i
unfolding there
unzigzag_zigzag i h = eqb→eq (unzigzag_at (zigzag_at i)) i (both_left (eqb (unzigzag_at (zigzag_at i)) i) _ (every there 64 all_there i h))

pub zigzag_below : (i : ℕ) → i < 64 → zigzag_at i < 64
unfolding there
zigzag_below i h = ltb→lt (zigzag_at i) 64 (both_right (eqb (unzigzag_at (zigzag_at i)) i) _ (every there 64 all_there i h))

pub zigzag_unzigzag : (j : ℕ) → j < 64 → zigzag_at (unzigzag_at j) ≡ j
unfolding back
zigzag_unzigzag j h = eqb→eq (zigzag_at (unzigzag_at j)) j (both_left (eqb (zigzag_at (unzigzag_at j)) j) _ (every back 64 all_back j h))

pub unzigzag_below : (j : ℕ) → j < 64 → unzigzag_at j < 64
unfolding back
unzigzag_below j h = ltb→lt (unzigzag_at j) 64 (both_right (eqb (zigzag_at (unzigzag_at j)) j) _ (every back 64 all_back j h))

-- the ends of the scan
pub zigzag_first : zigzag_at 0 ≡ 0
unfolding zigzag
zigzag_first = refl

pub zigzag_last : zigzag_at 63 ≡ 63
unfolding zigzag
zigzag_last = refl
