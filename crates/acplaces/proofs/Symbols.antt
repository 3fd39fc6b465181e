-- Symbol by symbol, with the coefficients: a run of n at a place is n zeros, cut where the block ends, the rest carried on; a value is one place.
use mathlib.Core.Path.{◌≡◌, refl, sym, ap, ap₂, ◌∙◌}
use mathlib.Core.Bool.{true, false}
use mathlib.Core.List.{List, [], ◌∷◌, ◌++◌, append_assoc}
use Prim.Native.Nat.{ℕ, zero, suc, ◌+◌, ◌-◌, ◌≤◌, ◌<◌}
use native.Mathlib.Nat.{zero-add, suc-add}
use native.Mathlib.Omega.{arith}
use lib.IntN.{ℤ, pos}
use lib.ListN.{replicate}
use Rattle.bits.specs.Bits.{Stream}
use Rattle.bits.specs.Read.{bad_symbol, run, value, read_symbol}
use Rattle.bits.specs.Signed.{signed_of}
use Rattle.bitreader.specs.Cursor.{symbol_by}
use Rattle.calls.specs.ReadPlane.{Places, bad_places, places, place_then, read_places}
use Rattle.acplaces.specs.Places.{good_places}
use Rattle.acplaces.specs.Going.{behind}

behind_none : (x : Places) → behind [] x ≡ x
behind_none bad_places = refl
behind_none (places cs q r) = refl

behind_then : (xs : List ℤ) (c : ℤ) (x : Places) → behind xs (place_then c x) ≡ behind (xs ++ (c ∷ [])) x
behind_then xs c bad_places = refl
behind_then xs c (places cs q r) = ap (λ (l : List ℤ). places l q r) (sym (append_assoc xs (c ∷ []) cs))

then_behind : (c : ℤ) (xs : List ℤ) (x : Places) → place_then c (behind xs x) ≡ behind (c ∷ xs) x
then_behind c xs bad_places = refl
then_behind c xs (places cs q r) = refl

behind_behind : (xs ys : List ℤ) (x : Places) → behind xs (behind ys x) ≡ behind (xs ++ ys) x
behind_behind xs ys bad_places = refl
behind_behind xs ys (places cs q r) = ap (λ (l : List ℤ). places l q r) (sym (append_assoc xs ys cs))

never : false ≡ true → ⊥
never e = let z : ◌≡◌ {A = ℕ} 0 1 = cc in omega arith

pub behind_good : (xs : List ℤ) (x : Places) → good_places (behind xs x) ≡ true → good_places x ≡ true
behind_good xs bad_places e = e
behind_good xs (places cs q r) e = refl

-- the symbol by its head bit
pub value_by : (n h q : ℕ) → h ≡ 0 → symbol_by n h q ≡ value n q
value_by n zero q e = refl
value_by n (suc h) q e = absurd (omega arith)

pub run_by : (n h q : ℕ) → (h ≡ 0 → ⊥) → symbol_by n h q ≡ run n q
run_by n zero q e = absurd (e refl)
run_by n (suc h) q e = refl

module _ (s : Stream) where
  same : (k k' p r r' : ℕ) → k ≡ k' → r ≡ r' → read_places k s p r ≡ read_places k' s p r'
  same k k' p r r' e f = ap₂ (λ (k r : ℕ). read_places k s p r) e f

  zeros : (m k p r : ℕ) → read_places (m + k) s p (m + r) ≡ behind (replicate m (pos 0)) (read_places k s p r)
  unfolding read_places
  zeros zero k p r = same (0 + k) k p (0 + r) r (zero-add k) (zero-add r) ∙ sym (behind_none (read_places k s p r))
  zeros (suc m) k p r =
      same (suc m + k) (suc (m + k)) p (suc m + r) (suc (m + r)) (suc-add m k) (suc-add m r)
      ∙ ap (place_then (pos 0)) (zeros m k p r) ∙ then_behind (pos 0) (replicate m (pos 0)) (read_places k s p r)

  -- m zeros of the r that are still to come are in the block
  pub zeros_first : (m k p r : ℕ) → m ≡ k - (k - r) → read_places k s p r ≡ behind (replicate m (pos 0)) (read_places (k - r) s p (r - k))
  zeros_first m k p r e = same k (m + (k - r)) p r (m + (r - k)) (omega arith) (omega arith) ∙ zeros m (k - r) p (r - k)

  value_first : (k p c q : ℕ) → value c q ≡ read_symbol s p → read_places (suc k) s p 0 ≡ place_then (signed_of c) (read_places k s q 0)
  unfolding read_places
  value_first k p c q e = rw (← e)

  run_first : (k p n q : ℕ) → 0 < n → run n q ≡ read_symbol s p → read_places (suc k) s p 0 ≡ read_places (suc k) s q n
  unfolding read_places
  run_first k p zero q z e = absurd (omega arith)
  run_first k p (suc n) q z e =
      let d : suc n - 1 ≡ n = omega arith in
      rw (← e) (ap (λ (m : ℕ). place_then (pos 0) (read_places k s q m)) d)

  bad_first : (k p : ℕ) → bad_symbol ≡ read_symbol s p → read_places (suc k) s p 0 ≡ bad_places
  unfolding read_places
  bad_first k p e = rw (← e)

  at_place : (place p : ℕ) → place < 64 → read_places (64 - place) s p (place - 64) ≡ read_places (suc (63 - place)) s p 0
  at_place place p b = same (64 - place) (suc (63 - place)) p (place - 64) 0 (omega arith) (omega arith)

  module _ (got : List ℤ) (place p n q : ℕ) (b : place < 64) where
    pub value_turn : value n q ≡ read_symbol s p
        → behind got (read_places (64 - place) s p (place - 64)) ≡ behind (got ++ (signed_of n ∷ [])) (read_places (64 - (place + 1)) s q (place + 1 - 64))
    value_turn e =
        ap (behind got)
        (at_place place p b ∙ value_first (63 - place) p n q e
        ∙ ap (place_then (signed_of n)) (same (63 - place) (64 - (place + 1)) q 0 (place + 1 - 64) (omega arith) (omega arith)))
        ∙ behind_then got (signed_of n) (read_places (64 - (place + 1)) s q (place + 1 - 64))

    pub run_turn : (m : ℕ) → m ≡ (64 - place) - (64 - (place + n)) → 0 < n → run n q ≡ read_symbol s p
        → behind got (read_places (64 - place) s p (place - 64)) ≡ behind (got ++ replicate m (pos 0)) (read_places (64 - (place + n)) s q (place + n - 64))
    run_turn m f z e =
        ap (behind got)
        (at_place place p b ∙ run_first (63 - place) p n q z e
        ∙ zeros_first m (suc (63 - place)) q n (omega arith)
        ∙ ap (behind (replicate m (pos 0))) (same (suc (63 - place) - n) (64 - (place + n)) q (n - suc (63 - place)) (place + n - 64) (omega arith) (omega arith)))
        ∙ behind_behind got (replicate m (pos 0)) (read_places (64 - (place + n)) s q (place + n - 64))

  -- no bad code in the places: there is a symbol here
  pub some : (place p : ℕ) → place < 64 → bad_symbol ≡ read_symbol s p → good_places (read_places (64 - place) s p (place - 64)) ≡ true → ⊥
  some place p b e g = never (sym (ap good_places (at_place place p b ∙ bad_first (63 - place) p e)) ∙ g)

  -- the block is over
  pub over : (place p : ℕ) → 64 ≤ place → read_places (64 - place) s p (place - 64) ≡ places [] p (place - 64)
  unfolding read_places
  over place p b = same (64 - place) 0 p (place - 64) (place - 64) (omega arith) refl
