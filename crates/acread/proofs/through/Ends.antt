-- Where the blocks read end: at their start or after it, and not far. B is what holds at a bad code: anything where one may stand, ⊥ where none does.
use mathlib.Core.Path.{◌≡◌, refl}
use mathlib.Core.Bool.{Bool, true}
use mathlib.Core.List.{List}
use Prim.Native.Nat.{ℕ, zero, suc, ◌+◌, ◌-◌, ◌*◌, ◌≤◌, ◌<◌}
use native.Mathlib.Omega.{arith}
use lib.Dec.{ltb}
use lib.IntN.{ℤ, pos}
use lib.ListN.{drop, get_or}
use Rattle.bits.specs.Bits.{Stream, bit_at}
use Rattle.bits.specs.Signed.{signed_of}
use Rattle.bits.specs.Read.{Symbol, bad_symbol, run, value, read_symbol}
use Rattle.bitreader.specs.scan.Six.{no_six_zeros}
use Rattle.bitreader.proofs.scan.Codes.{SymbolTo, no_symbol}
use Rattle.calls.specs.ReadPlane.{Places, bad_places, places, place_then, by_symbol, read_places, BlockRead, Blocks, bad_blocks, blocks, block_then, by_places, read_blocks}
use Rattle.acread.specs.through.Through.{block_ends, good_ends}

abbrev PlacesTo : Type 0 → ℕ → ℕ → Places → Type 0
PlacesTo B a b bad_places = B
PlacesTo B a b (places cs q r) = (a ≤ q) × (q ≤ b)

abbrev pub BlocksTo : Type 0 → ℕ → ℕ → Blocks → Type 0
BlocksTo B a b bad_blocks = B
BlocksTo B a b (blocks bs q r) = (a ≤ q) × (q ≤ b)

module _ (B : Type 0) (a b a' b' : ℕ) (lower : a' ≤ a) (upper : b ≤ b') where
  then_place : (c : ℤ) (x : Places) → PlacesTo B a b x → PlacesTo B a' b' (place_then c x)
  then_place c bad_places h = h
  then_place c (places cs q r) h = (omega arith, omega arith)

  then_block : (c : BlockRead) (x : Blocks) → BlocksTo B a b x → BlocksTo B a' b' (block_then c x)
  then_block c bad_blocks h = h
  then_block c (blocks bs q r) h = (omega arith, omega arith)

-- from the bit m on every code ends so
module _ (B : Type 0) (s : Stream) (m : ℕ) (code : (p : ℕ) → m ≤ p → SymbolTo B p (p + 112) (read_symbol s p)) where
  places_to : (k p r : ℕ) → m ≤ p → PlacesTo B p (p + 112 * k) (read_places k s p r)
  unfolding read_places
  places_to zero p r h = (omega arith, omega arith)
  places_to (suc k) p (suc r) h = then_place B p (p + 112 * k) p (p + 112 * suc k) (omega arith) (omega arith) (pos 0) (read_places k s p r) (places_to k p r h)
  places_to (suc k) p zero h =
      by_symbol_lem p k (λ q r. read_places k s q r) (read_symbol s p) (code p h) (λ q r g. places_to k q r (omega arith))
    where
      by_symbol_lem : (p k : ℕ) (next : ℕ → ℕ → Places) (x : Symbol) → SymbolTo B p (p + 112) x → ((q r : ℕ) → p ≤ q → PlacesTo B q (q + 112 * k) (next q r))
          → PlacesTo B p (p + 112 * suc k) (by_symbol x next)
      by_symbol_lem p k next bad_symbol e f = e
      by_symbol_lem p k next (run n q) e f = then_place B q (q + 112 * k) p (p + 112 * suc k) (omega arith) (omega arith) (pos 0) (next q (n - 1)) (f q (n - 1) e.0)
      by_symbol_lem p k next (value c q) e f = then_place B q (q + 112 * k) p (p + 112 * suc k) (omega arith) (omega arith) (signed_of c) (next q 0) (f q 0 e.0)

  by_places_lem : (p n : ℕ) (f : Bool) (next : ℕ → ℕ → Blocks) (x : Places) → PlacesTo B p (p + 112 * 64) x → ((q r : ℕ) → p ≤ q → BlocksTo B q (q + 7168 * n) (next q r))
      → BlocksTo B p (p + 7168 * suc n) (by_places f x next)
  by_places_lem p n f next bad_places e g = e
  by_places_lem p n f next (places cs q r) e g =
      then_block B q (q + 7168 * n) p (p + 7168 * suc n) (omega arith) (omega arith) (record { symbol_read = f; coeffs = cs }) (next q r) (g q r e.0)

  pub blocks_to : (n p r : ℕ) → m ≤ p → BlocksTo B p (p + 7168 * n) (read_blocks n s p r)
  unfolding read_blocks
  blocks_to zero p r h = (omega arith, omega arith)
  blocks_to (suc n) p r h =
      by_places_lem p n (ltb r 64) (λ q r'. read_blocks n s q r') (read_places 64 s p r) (places_to 64 p r h) (λ q r' g. blocks_to n q r' (omega arith))

-- where no six zero bytes stand in a row from the byte `at` on, no block read from there on has a bad code
pub clean_blocks : (l : List ℕ) → ((j : ℕ) → get_or l j 0 < 256) → (at : ℕ) → no_six_zeros (drop at l) ≡ true → (n : ℕ) → good_ends (block_ends (read_blocks n (bit_at l) (8 * at) 0)) ≡ true
clean_blocks l bytes at clean n = good (read_blocks n (bit_at l) (8 * at) 0) (blocks_to ⊥ (bit_at l) (8 * at) (no_symbol l bytes at clean) n (8 * at) 0 (omega arith))
  where
    good : (x : Blocks) → BlocksTo ⊥ (8 * at) (8 * at + 7168 * n) x → good_ends (block_ends x) ≡ true
    good bad_blocks h = absurd h
    good (blocks bs q r) h = refl
