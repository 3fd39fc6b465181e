-- Quantised blocks, and what follows for a plane's streams: they fit the lengths of the size call.
use mathlib.Core.Path.{◌≡◌}
use mathlib.Core.List.{List, [], ◌∷◌, ◌++◌, map}
use Prim.Native.Nat.{ℕ, ◌*◌, ◌≤◌, ◌<◌}
use native.Mathlib.Omega.{arith}
use lib.IntN.{ℤ, pos, negsuc, nat_abs}
use lib.Signed.{mag}
use lib.ListN.{length, get_or}
use Rattle.ask.specs.Limits.{shift_max, dc_block_bytes, ac_block_bytes}
use Rattle.calls.specs.Grid.{blocks_of}
use Rattle.calls.specs.Streams.{dc_of, dc_stream, ac_stream}
use Rattle.calls.specs.Questions.{lengths_at_most}
use Rattle.calls.proofs.AcBack.{Fit16}
use Rattle.calls.proofs.PlaneBack.{Blocks64}
use Rattle.calls.proofs.Size.{AtMost, Small, AcSmall, dc_length, ac_length}

-- a quantised block in scan order: 64 coefficients from -2,048 to 2,048, the last one from -395 to 395
pub record Quantised (b : List ℤ) : Type 0 where
  pub sixty_four : length b ≡ 64
  pub at_most : AtMost 2048 b
  pub last : nat_abs (get_or b 63 (pos 0)) ≤ 395

abbrev pub AllQuantised : List (List ℤ) → Type 0
AllQuantised [] = Unit {0}
AllQuantised (b ∷ bs) = Quantised b × AllQuantised bs

pub all_append : (xs ys : List (List ℤ)) → AllQuantised xs → AllQuantised ys → AllQuantised (xs ++ ys)
all_append [] ys a b = b
all_append (x ∷ xs) ys a b = (a.0, all_append xs ys a.1 b)

fit_of : (b : List ℤ) → AtMost 2048 b → Fit16 b
fit_of [] h = tt
fit_of (c ∷ b) h = (mag_of c h.0, fit_of b h.1)
  where
    mag_of : (z : ℤ) → nat_abs z ≤ 2048 → mag z < 32768
    mag_of (pos n) l = omega arith
    mag_of (negsuc n) l = omega arith

pub blocks_64 : (bs : List (List ℤ)) → AllQuantised bs → Blocks64 bs
blocks_64 [] h = tt
blocks_64 (b ∷ bs) h = (h.0.sixty_four, fit_of b h.0.at_most, blocks_64 bs h.1)

pub dcs_at_most : (bs : List (List ℤ)) → AllQuantised bs → AtMost 2048 (map dc_of bs)
dcs_at_most [] h = tt
dcs_at_most (b ∷ bs) h = (one b h.0.at_most, dcs_at_most bs h.1)
  where
    one : (l : List ℤ) → AtMost 2048 l → nat_abs (dc_of l) ≤ 2048
    one [] a = omega arith
    one (c ∷ l) a = a.0

small_of : (c : ℤ) (b : List ℤ) → AtMost 2048 (c ∷ b) → nat_abs (get_or (c ∷ b) (length b) (pos 0)) ≤ 395 → Small (c ∷ b)
small_of c [] h l = l
small_of c (d ∷ b) h l = (h.0, small_of d b h.1 l)

one_small : (b : List ℤ) (bs : List (List ℤ)) → Quantised b → AcSmall bs → AcSmall (b ∷ bs)
one_small [] bs q r = absurd (omega (arith, q.sixty_four))
one_small (c ∷ []) bs q r = absurd (omega (arith, q.sixty_four))
one_small (c ∷ d ∷ l) bs q r =
    let n : length l ≡ 62 = omega (arith, q.sixty_four) in
    (omega arith, small_of d l q.at_most.1 (rw n q.last), r)

ac_small : (bs : List (List ℤ)) → AllQuantised bs → AcSmall bs
ac_small [] h = tt
ac_small (b ∷ bs) h = one_small b bs h.0 (ac_small bs h.1)

-- "a length that each stream is at most: 4 bytes a block for DC, 197 for AC"
module _ (bs : List (List ℤ)) (q : AllQuantised bs) where
  pub dc_le : (shift : ℕ) → shift ≤ shift_max → length (dc_stream shift bs) ≤ dc_block_bytes * length bs
  dc_le shift h = dc_length shift bs h (dcs_at_most bs q)

  pub ac_le : length (ac_stream bs) ≤ ac_block_bytes * length bs
  ac_le = ac_length bs (ac_small bs q)

  module _ (stride : ℕ) (count : length bs ≡ blocks_of stride) where
    pub dc_fits : (shift : ℕ) → shift ≤ shift_max → length (dc_stream shift bs) ≤ (lengths_at_most stride).dc
    dc_fits shift h = rw (← count) (dc_le shift h)

    pub ac_fits : length (ac_stream bs) ≤ (lengths_at_most stride).ac
    ac_fits = rw (← count) ac_le
