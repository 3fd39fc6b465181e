-- Laws of a part of a row of places: it is followed by the rest, and a row that ends puts what waits as a run.
use mathlib.Core.Path.{◌≡◌, refl, sym, ap, ◌∙◌}
use mathlib.Core.Bool.{Bool}
use mathlib.Core.List.{List, [], ◌∷◌, ◌++◌, append_assoc, append-nil}
use Prim.Native.Nat.{ℕ, zero, suc, ◌+◌, ◌≤◌}
use native.Mathlib.Omega.{arith}
use lib.IntN.{ℤ, pos, negsuc}
use lib.ListN.{length}
use Rattle.bits.specs.Bits.{value_code, run_code}
use Rattle.bits.specs.Signed.{code_of}
use Rattle.calls.specs.Streams.{symbol_codes, with_dc}
use Rattle.entropy.specs.block.Places.{places_codes, waiting_after}

regroup : (r v p s : List Bool) {x : List Bool} → x ≡ p ++ s → r ++ (v ++ x) ≡ ((r ++ v) ++ p) ++ s
regroup r v p s e = ap (λ (l : List Bool). r ++ (v ++ l)) e ∙ sym (append_assoc r v (p ++ s)) ∙ sym (append_assoc (r ++ v) p s)

-- the codes of a row of places are those of its first part, then those of the rest
pub symbols_split : (w : ℕ) (cs rest : List ℤ) → symbol_codes w (cs ++ rest) ≡ places_codes w cs ++ symbol_codes (waiting_after w cs) rest
unfolding symbol_codes places_codes waiting_after
symbols_split w [] rest = refl
symbols_split w (pos zero ∷ cs) rest = symbols_split (suc w) cs rest
symbols_split w (pos (suc n) ∷ cs) rest =
    regroup (run_code w) (value_code (code_of (pos (suc n)))) (places_codes 0 cs) (symbol_codes (waiting_after 0 cs) rest) (symbols_split 0 cs rest)
symbols_split w (negsuc n ∷ cs) rest =
    regroup (run_code w) (value_code (code_of (negsuc n))) (places_codes 0 cs) (symbol_codes (waiting_after 0 cs) rest) (symbols_split 0 cs rest)

pub symbols_end : (w : ℕ) (cs : List ℤ) → symbol_codes w cs ≡ places_codes w cs ++ run_code (waiting_after w cs)
unfolding symbol_codes
symbols_end w cs = ap (symbol_codes w) (sym (append-nil cs)) ∙ symbols_split w cs []

pub places_split : (w : ℕ) (cs ds : List ℤ) → places_codes w (cs ++ ds) ≡ places_codes w cs ++ places_codes (waiting_after w cs) ds
unfolding places_codes waiting_after
places_split w [] ds = refl
places_split w (pos zero ∷ cs) ds = places_split (suc w) cs ds
places_split w (pos (suc n) ∷ cs) ds =
    let v = run_code w ++ value_code (code_of (pos (suc n))) in
    ap (λ (l : List Bool). (run_code w ++ value_code (code_of (pos (suc n)))) ++ l) (places_split 0 cs ds)
    ∙ sym (append_assoc (run_code w ++ value_code (code_of (pos (suc n)))) (places_codes 0 cs) (places_codes (waiting_after 0 cs) ds))
places_split w (negsuc n ∷ cs) ds =
    ap (λ (l : List Bool). (run_code w ++ value_code (code_of (negsuc n))) ++ l) (places_split 0 cs ds)
    ∙ sym (append_assoc (run_code w ++ value_code (code_of (negsuc n))) (places_codes 0 cs) (places_codes (waiting_after 0 cs) ds))

pub waiting_split : (w : ℕ) (cs ds : List ℤ) → waiting_after w (cs ++ ds) ≡ waiting_after (waiting_after w cs) ds
unfolding waiting_after
waiting_split w [] ds = refl
waiting_split w (pos zero ∷ cs) ds = waiting_split (suc w) cs ds
waiting_split w (pos (suc n) ∷ cs) ds = waiting_split 0 cs ds
waiting_split w (negsuc n ∷ cs) ds = waiting_split 0 cs ds

-- no more zeros wait than there were places
pub waiting_le : (w : ℕ) (cs : List ℤ) → waiting_after w cs ≤ w + length cs
unfolding waiting_after
waiting_le w [] = omega arith
waiting_le w (pos zero ∷ cs) = omega (arith, waiting_le (suc w) cs)
waiting_le w (pos (suc n) ∷ cs) = omega (arith, waiting_le 0 cs)
waiting_le w (negsuc n ∷ cs) = omega (arith, waiting_le 0 cs)

-- ---- a place that is not zero
pub value_codes : (c : ℤ) (w : ℕ) (cs : List ℤ) → (c ≡ pos 0 → ⊥) → places_codes w (c ∷ cs) ≡ (run_code w ++ value_code (code_of c)) ++ places_codes 0 cs
unfolding places_codes
value_codes (pos zero) w cs h = absurd (h refl)
value_codes (pos (suc n)) w cs h = refl
value_codes (negsuc n) w cs h = refl

pub value_waits : (c : ℤ) (w : ℕ) (cs : List ℤ) → (c ≡ pos 0 → ⊥) → waiting_after w (c ∷ cs) ≡ waiting_after 0 cs
unfolding waiting_after
value_waits (pos zero) w cs h = absurd (h refl)
value_waits (pos (suc n)) w cs h = refl
value_waits (negsuc n) w cs h = refl

-- ---- place 0 is taken as zero
pub first_codes : (w : ℕ) (c : ℤ) (cs : List ℤ) → places_codes w (with_dc (pos 0) (c ∷ cs)) ≡ places_codes (suc w) cs
unfolding places_codes
first_codes w c cs = refl

pub first_waits : (w : ℕ) (c : ℤ) (cs : List ℤ) → waiting_after w (with_dc (pos 0) (c ∷ cs)) ≡ waiting_after (suc w) cs
unfolding waiting_after
first_waits w c cs = refl
