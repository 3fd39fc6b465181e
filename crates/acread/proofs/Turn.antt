-- Place by place, and symbol by symbol: a run of n at a place is n zeros, cut where the block ends, the rest carried on; a value is one place.
use mathlib.Core.Path.{◌≡◌, refl, ap, ap₂, ◌∙◌}
use Prim.Native.Nat.{ℕ, zero, suc, ◌+◌, ◌-◌, ◌≤◌, ◌<◌}
use native.Mathlib.Omega.{arith}
use lib.IntN.{ℤ, pos}
use Rattle.bits.specs.Bits.{Stream}
use Rattle.bits.specs.Read.{bad_symbol, run, value, read_symbol}
use Rattle.bitreader.specs.Cursor.{symbol_by}
use Rattle.calls.specs.ReadPlane.{Places, bad_places, places, place_then, read_places}
use Rattle.acread.specs.Block.{span_of, Ends, bad_ends, ends, ends_of}

then_ends : (c : ℤ) (x : Places) → ends_of (place_then c x) ≡ ends_of x
then_ends c bad_places = refl
then_ends c (places cs q r) = refl

module _ (s : Stream) where
  -- the end, of so many places and so many zeros
  abbrev pub E : ℕ → ℕ → ℕ → Ends
  E k p r = ends_of (read_places k s p r)

  same : (k k' p r r' : ℕ) → k ≡ k' → r ≡ r' → E k p r ≡ E k' p r'
  same k k' p r r' e f = ap₂ (λ (k r : ℕ). ends_of (read_places k s p r)) e f

  zeros_ends : (k p r : ℕ) → E k p r ≡ E (k - r) p (r - k)
  unfolding read_places
  zeros_ends zero p r = same 0 (0 - r) p r (r - 0) (omega arith) (omega arith)
  zeros_ends (suc k) p zero = same (suc k) (suc k - 0) p 0 (0 - suc k) (omega arith) (omega arith)
  zeros_ends (suc k) p (suc r) =
      then_ends (pos 0) (read_places k s p r) ∙ zeros_ends k p r ∙ same (k - r) (suc k - suc r) p (r - k) (suc r - suc k) (omega arith) (omega arith)

  value_ends : (k p c q : ℕ) → value c q ≡ read_symbol s p → E (suc k) p 0 ≡ E k q 0
  unfolding read_places
  value_ends k p c q e = rw (← e) (then_ends _ (read_places k s q 0))

  run_ends : (k p n q : ℕ) → run (suc n) q ≡ read_symbol s p → E (suc k) p 0 ≡ E (suc k) q (suc n)
  unfolding read_places
  run_ends k p n q e =
      let d : suc n - 1 ≡ n = omega arith in
      rw (← e) (ap (λ (m : ℕ). ends_of (place_then (pos 0) (read_places k s q m))) d)

  bad_ends_lem : (k p : ℕ) → bad_symbol ≡ read_symbol s p → E (suc k) p 0 ≡ bad_ends
  unfolding read_places
  bad_ends_lem k p e = rw (← e)

  -- before the first symbol: the zeros still to come
  pub start : (p r : ℕ) → E 64 p r ≡ E (64 - r) p (r - 64)
  start p r = zeros_ends 64 p r

  at_place : (place p : ℕ) → place < 64 → E (64 - place) p (place - 64) ≡ E (suc (63 - place)) p 0
  at_place place p b = same (64 - place) (suc (63 - place)) p (place - 64) 0 (omega arith) (omega arith)

  -- one symbol
  pub value_turn : (place p c q : ℕ) → place < 64 → value c q ≡ read_symbol s p → E (64 - place) p (place - 64) ≡ E (64 - (place + 1)) q (place + 1 - 64)
  value_turn place p c q b e =
      at_place place p b ∙ value_ends (63 - place) p c q e ∙ same (63 - place) (64 - (place + 1)) q 0 (place + 1 - 64) (omega arith) (omega arith)

  pub run_turn : (place p n q : ℕ) → place < 64 → 0 < n → run n q ≡ read_symbol s p → E (64 - place) p (place - 64) ≡ E (64 - (place + n)) q (place + n - 64)
  run_turn place p zero q b z e = absurd (omega arith)
  run_turn place p (suc n) q b z e =
      at_place place p b ∙ run_ends (63 - place) p n q e ∙ zeros_ends (suc (63 - place)) q (suc n)
      ∙ same (suc (63 - place) - suc n) (64 - (place + suc n)) q (suc n - suc (63 - place)) (place + suc n - 64) (omega arith) (omega arith)

  pub turn : (place p n h q : ℕ) → place < 64 → 0 < n → symbol_by n h q ≡ read_symbol s p
      → E (64 - place) p (place - 64) ≡ E (64 - (place + span_of h n)) q (place + span_of h n - 64)
  turn place p n zero q b z e = value_turn place p n q b e
  turn place p n (suc h) q b z e = run_turn place p n q b z e

  -- a bad code
  pub stop : (place p : ℕ) → place < 64 → bad_symbol ≡ read_symbol s p → E (64 - place) p (place - 64) ≡ bad_ends
  stop place p b e = at_place place p b ∙ bad_ends_lem (63 - place) p e

  -- the block is over
  pub over : (place p : ℕ) → 64 ≤ place → E (64 - place) p (place - 64) ≡ ends p (place - 64)
  unfolding read_places
  over place p b = same (64 - place) 0 p (place - 64) (place - 64) (omega arith) refl
