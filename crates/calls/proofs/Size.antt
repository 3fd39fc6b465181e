-- How long a plane's own streams are at most: 4 bytes a block (DC), 197 (AC).
use mathlib.Core.Path.{◌≡◌, ap}
use mathlib.Core.List.{List, [], ◌∷◌, ◌++◌, map}
use Prim.Native.Nat.{ℕ, zero, suc, ◌+◌, ◌*◌, ◌^◌, ◌≤◌, ◌<◌}
use native.Mathlib.Omega.{arith}
use lib.IntN.{ℤ, pos, negsuc, nat_abs, ◌-ℤ◌}
use lib.ListN.{length, length-append, length-map}
use Rattle.ask.specs.Limits.{shift_max, dc_block_bytes, ac_block_bytes}
use Rattle.bits.specs.Bits.{bit_length, halvings, spread, value_code, run_code}
use Rattle.bits.specs.Signed.{code_of}
use Rattle.bits.proofs.Codes.{Digits, digits, digits_lt, length_spread}
use Rattle.bits.proofs.PackBack.{length_pad_to_byte}
use Rattle.bits.proofs.SignedBack.{code_le}
use Rattle.calls.specs.Streams.{coded_dc, steps_from, step_code, step_codes, dc_of, with_dc, dc_stream, symbol_codes, joined, ac_stream}
use Rattle.calls.proofs.DcBack.{abs_less}
use Rattle.calls.proofs.DcNear.{dc_near}

value_length_lem : (c m : ℕ) → c < 2 ^ suc m → length (value_code c) ≤ m + suc m
unfolding value_code bit_length halvings spread
value_length_lem zero m l = omega arith
value_length_lem (suc c) m l = go (digits (suc c) (omega arith))
  where
    go : (k : ℕ) × Digits (suc c) k → length (value_code (suc c)) ≤ m + suc m
    go (k, d) = omega (arith, ap (λ (b : ℕ). length (spread b (suc c))) d.is, length_spread k (suc c), digits_lt (suc c) k (suc m) d l)

below_pow : (k : ℕ) → k < 2 ^ k
below_pow zero = omega arith
below_pow (suc k) = omega (arith, below_pow k)

-- a run costs at most two bits a zero
run_length_lem : (n : ℕ) → length (run_code n) ≤ 2 * n
unfolding run_code
run_length_lem zero = omega arith
run_length_lem (suc n) = go (digits (suc n) (omega arith))
  where
    go : (k : ℕ) × Digits (suc n) k → length (run_code (suc n)) ≤ 2 * suc n
    go (k, d) = rw (d.is, length_spread k (suc n)) (omega (arith, d.low, below_pow k))

-- ---- DC
step_length : (d : ℤ) → nat_abs d ≤ 4096 → length (step_code d) ≤ 27
unfolding step_code
step_length (pos zero) h = omega arith
step_length (pos (suc n)) h = value_length_lem (code_of (pos (suc n))) 13 (omega (arith, code_le (pos (suc n))))
step_length (negsuc n) h = value_length_lem (code_of (negsuc n)) 13 (omega (arith, code_le (negsuc n)))

-- numbers from -b to b
abbrev pub AtMost : ℕ → List ℤ → Type 0
AtMost b [] = Unit {0}
AtMost b (d ∷ ds) = (nat_abs d ≤ b) × AtMost b ds

steps_length : (q : ℤ) (es : List ℤ) → nat_abs q ≤ 2048 → AtMost 2048 es → length (step_codes (steps_from q es)) ≤ 27 * length es
unfolding step_codes steps_from
steps_length q [] hq h = omega arith
steps_length q (e ∷ es) hq h = simp length-append (omega (arith, step_length (e -ℤ q) (omega (arith, abs_less e q, h.0)), steps_length e es h.0 h.1))

coded_at_most : (s : ℕ) (ds : List ℤ) → s ≤ shift_max → AtMost 2048 ds → AtMost 2048 (map (coded_dc s) ds)
coded_at_most s [] hs h = tt
coded_at_most s (d ∷ ds) hs h = ((dc_near s d hs h.0).small, coded_at_most s ds hs h.1)

pub dc_length : (s : ℕ) (bs : List (List ℤ)) → s ≤ shift_max → AtMost 2048 (map dc_of bs) → length (dc_stream s bs) ≤ dc_block_bytes * length bs
unfolding dc_stream
dc_length s bs hs h =
    rw (length_pad_to_byte (step_codes (steps_from (pos 0) (map (coded_dc s) (map dc_of bs)))))
    (omega (arith, steps_length (pos 0) (map (coded_dc s) (map dc_of bs)) (omega arith) (coded_at_most s (map dc_of bs) hs h), length-map (map dc_of bs) (coded_dc s), length-map bs dc_of))

-- ---- AC
-- the bits that a coefficient costs at most; a zero's are its share of a run
cost : ℤ → ℕ
cost (pos zero) = 2
cost (pos (suc n)) = length (value_code (code_of (pos (suc n))))
cost (negsuc n) = length (value_code (code_of (negsuc n)))

costs : List ℤ → ℕ
costs [] = 0
costs (c ∷ cs) = cost c + costs cs

symbols_length : (r : ℕ) (cs : List ℤ) → length (symbol_codes r cs) ≤ 2 * r + costs cs
unfolding symbol_codes costs cost
symbols_length r [] = omega (arith, run_length_lem r)
symbols_length r (pos zero ∷ cs) = omega (arith, symbols_length (suc r) cs)
symbols_length r (pos (suc n) ∷ cs) = simp length-append (omega (arith, run_length_lem r, symbols_length 0 cs))
symbols_length r (negsuc n ∷ cs) = simp length-append (omega (arith, run_length_lem r, symbols_length 0 cs))

cost_le : (c : ℤ) (m : ℕ) → 2 * nat_abs c + 1 < 2 ^ suc m → 0 < m → cost c ≤ m + suc m
unfolding cost
cost_le (pos zero) m h p = omega arith
cost_le (pos (suc n)) m h p = value_length_lem (code_of (pos (suc n))) m (omega (arith, code_le (pos (suc n))))
cost_le (negsuc n) m h p = value_length_lem (code_of (negsuc n)) m (omega (arith, code_le (negsuc n)))

-- AC coefficients from -2,048 to 2,048, the last one from -395 to 395
abbrev pub Small : List ℤ → Type 0
Small [] = Unit {0}
Small (c ∷ []) = nat_abs c ≤ 395
Small (c ∷ d ∷ cs) = (nat_abs c ≤ 2048) × Small (d ∷ cs)

costs_append : (xs ys : List ℤ) → costs (xs ++ ys) ≡ costs xs + costs ys
unfolding costs
costs_append [] ys = omega arith
costs_append (x ∷ xs) ys = omega (arith, costs_append xs ys)

-- the last one leaves room for the run of place 0
costs_le : (c : ℤ) (cs : List ℤ) → Small (c ∷ cs) → costs (c ∷ cs) + 2 ≤ 25 * length (c ∷ cs)
unfolding costs
costs_le c [] s = omega (arith, cost_le c 9 (omega arith) (omega arith))
costs_le c (d ∷ cs) s = omega (arith, cost_le c 12 (omega (arith, s.0)) (omega arith), costs_le d cs s.1)

abbrev pub AcSmall : List (List ℤ) → Type 0
AcSmall [] = Unit {0}
AcSmall ([] ∷ bs) = ⊥
AcSmall ((c ∷ b) ∷ bs) = (length b ≡ 63) × Small b × AcSmall bs

plane_costs : (bs : List (List ℤ)) → AcSmall bs → costs (joined (map (with_dc (pos 0)) bs)) ≤ 1576 * length bs
unfolding costs cost
plane_costs [] s = omega arith
plane_costs ([] ∷ bs) s = absurd s
plane_costs ((c ∷ []) ∷ bs) s = absurd (omega (arith, s.0))
plane_costs ((c ∷ d ∷ b) ∷ bs) s =
    rw (costs_append (d ∷ b) (joined (map (with_dc (pos 0)) bs))) (omega (arith, costs_le d b s.1, s.0, plane_costs bs s.2))

pub ac_length : (bs : List (List ℤ)) → AcSmall bs → length (ac_stream bs) ≤ ac_block_bytes * length bs
unfolding ac_stream
ac_length bs s =
    rw (length_pad_to_byte (symbol_codes 0 (joined (map (with_dc (pos 0)) bs))))
    (omega (arith, symbols_length 0 (joined (map (with_dc (pos 0)) bs)), plane_costs bs s))
