-- The AC stream is read back, place by place.
use mathlib.Core.Path.{◌≡◌, refl, ap}
use mathlib.Core.List.{List, [], ◌∷◌, ◌++◌}
use Prim.Native.Nat.{ℕ, zero, suc, ◌+◌, ◌^◌, ◌-◌, ◌≤◌, ◌<◌}
use native.Mathlib.Nat.{add-zero, zero-add, add-suc, suc-add, add_assoc}
use native.Mathlib.Omega.{arith}
use lib.IntN.{ℤ, pos, negsuc, nat_abs}
use lib.Signed.{mag}
use lib.ListN.{length, replicate, length-append}
use Rattle.bits.specs.Bits.{value_code, run_code, Stream}
use Rattle.bits.specs.Signed.{code_of, signed_of}
use Rattle.bits.proofs.Codes.{At, at_append, value_back, run_back}
use Rattle.bits.proofs.SignedBack.{signed_back, code_value, code_le}
use Rattle.calls.specs.Streams.{symbol_codes}
use Rattle.bits.specs.Read.{run}
use Rattle.calls.specs.ReadPlane.{Places, places, place_then, by_symbol, read_places}

-- numbers of 16 bits
abbrev pub Fit16 : List ℤ → Type 0
Fit16 [] = Unit {0}
Fit16 (c ∷ cs) = (mag c < 32768) × Fit16 cs

-- what reading a coefficient that is not 0 needs
record Value (c : ℤ) : Type 0 where
  two : 2 ≤ code_of c
  small : code_of c < 2 ^ 56
  back : signed_of (code_of c) ≡ c

abs_le : (c : ℤ) → mag c < 32768 → nat_abs c ≤ 32768
abs_le (pos n) h = omega arith
abs_le (negsuc n) h = omega arith

value_of : (c : ℤ) → mag c < 32768 → (c ≡ pos 0 → ⊥) → Value c
value_of c h ne = record { two = code_value c ne; small = omega (arith, code_le c, abs_le c h); back = signed_back c h }

pub suc_not : (n : ℕ) → pos (suc n) ≡ pos 0 → ⊥
suc_not n e = let z : suc n ≡ 0 = cc in omega arith

pub neg_not : (n : ℕ) → negsuc n ≡ pos 0 → ⊥
neg_not n e = cc

-- zeros that are still to come
coming : (m k : ℕ) (s : Stream) (q : ℕ) (cs : List ℤ) (q' r' : ℕ)
    → read_places k s q 0 ≡ places cs q' r' → read_places (m + k) s q m ≡ places (replicate m (pos 0) ++ cs) q' r'
unfolding read_places
coming zero k s q cs q' r' e = rw zero-add e
coming (suc m) k s q cs q' r' e = rw (suc-add, coming m k s q cs q' r' e)

less_one : (r : ℕ) → suc r - 1 ≡ r
less_one r = omega arith

-- a run of r + 1 zeros: one is at this place, r are still to come
run_rest : (r q : ℕ) (next : ℕ → ℕ → Places) → by_symbol (run (suc r) q) next ≡ place_then (pos 0) (next q r)
run_rest r q next = ap (λ n. place_then (pos 0) (next q n)) (less_one r)

-- a run, then what is read after it
run_first : (r k : ℕ) (s : Stream) (p : ℕ) (cs : List ℤ) (q' r' : ℕ) → r < 2 ^ 56 → At s p (run_code r)
    → read_places k s (p + length (run_code r)) 0 ≡ places cs q' r'
    → read_places (r + k) s p 0 ≡ places (replicate r (pos 0) ++ cs) q' r'
unfolding read_places run_code
run_first zero k s p cs q' r' l a e = rw zero-add (rw add-zero at e)
run_first (suc r) k s p cs q' r' l a e =
    rw (suc-add, run_back s p r l a, run_rest r (p + length (run_code (suc r))) (λ q m. read_places (r + k) s q m), coming r k s (p + length (run_code (suc r))) cs q' r' e)

-- a value, then what is read after it
value_first : (c : ℤ) → Value c → (k : ℕ) (s : Stream) (p : ℕ) (cs : List ℤ) (q' r' : ℕ) → At s p (value_code (code_of c))
    → read_places k s (p + length (value_code (code_of c))) 0 ≡ places cs q' r'
    → read_places (suc k) s p 0 ≡ places (c ∷ cs) q' r'
unfolding read_places
value_first c v k s p cs q' r' a e = rw (value_back s p (code_of c) v.two v.small a, e, v.back)

none_first : (s : Stream) (p : ℕ) → read_places 0 s p 0 ≡ places [] p 0
unfolding read_places
none_first s p = refl

shift_zero : (r : ℕ) (cs : List ℤ) → replicate r (pos 0) ++ pos 0 ∷ cs ≡ pos 0 ∷ replicate r (pos 0) ++ cs
shift_zero zero cs = refl
shift_zero (suc r) cs = ap (λ (l : List ℤ). pos 0 ∷ l) (shift_zero r cs)

-- a run, a value, and the rest
run_value : (c : ℤ) → Value c → (cs : List ℤ) (r : ℕ) (s : Stream) (p : ℕ) → r < 2 ^ 56
    → At s p (run_code r ++ (value_code (code_of c) ++ symbol_codes 0 cs))
    → ((q : ℕ) → At s q (symbol_codes 0 cs) → read_places (length cs) s q 0 ≡ places cs (q + length (symbol_codes 0 cs)) 0)
    → read_places (r + suc (length cs)) s p 0
    ≡ places (replicate r (pos 0) ++ c ∷ cs) (p + length (run_code r ++ (value_code (code_of c) ++ symbol_codes 0 cs))) 0
run_value c v cs r s p l a ih =
    let u = at_append s p (run_code r) (value_code (code_of c) ++ symbol_codes 0 cs) a in
    let w = at_append s (p + length (run_code r)) (value_code (code_of c)) (symbol_codes 0 cs) u.1 in
    rw (length-append (run_code r) (value_code (code_of c) ++ symbol_codes 0 cs), length-append (value_code (code_of c)) (symbol_codes 0 cs), ← add_assoc, ← add_assoc)
    (run_first r (suc (length cs)) s p (c ∷ cs) _ 0 l u.0
    (value_first c v (length cs) s (p + length (run_code r)) cs _ 0 w.0 (ih (p + length (run_code r) + length (value_code (code_of c))) w.1)))

-- r zeros are waiting
pub ac_back : (cs : List ℤ) (r : ℕ) (s : Stream) (p : ℕ) → Fit16 cs → r + length cs < 2 ^ 56 → At s p (symbol_codes r cs)
    → read_places (r + length cs) s p 0 ≡ places (replicate r (pos 0) ++ cs) (p + length (symbol_codes r cs)) 0
unfolding symbol_codes
ac_back [] r s p b l a = run_first r 0 s p [] (p + length (run_code r)) 0 (omega arith) a (none_first s (p + length (run_code r)))
ac_back (pos zero ∷ cs) r s p b l a = rw (add-suc, ← suc-add r (length cs), shift_zero r cs) (ac_back cs (suc r) s p b.1 (omega arith) a)
ac_back (pos (suc n) ∷ cs) r s p b l a =
    run_value (pos (suc n)) (value_of (pos (suc n)) b.0 (suc_not n)) cs r s p (omega arith) a
    (λ q h. rw zero-add at (ac_back cs 0 s q b.1 (omega arith) h))
ac_back (negsuc n ∷ cs) r s p b l a =
    run_value (negsuc n) (value_of (negsuc n) b.0 (neg_not n)) cs r s p (omega arith) a
    (λ q h. rw zero-add at (ac_back cs 0 s q b.1 (omega arith) h))
