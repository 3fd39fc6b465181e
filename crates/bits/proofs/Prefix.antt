-- No code of the AC stream begins another.
use mathlib.Core.Path.{◌≡◌, refl, sym, ap, ◌∙◌, subst}
use mathlib.Core.Bool.{Bool, false}
use mathlib.Core.List.{List, [], ◌∷◌, ◌++◌}
use Prim.Native.Nat.{ℕ, zero, suc, ◌+◌, ◌^◌, ◌≤◌, ◌<◌}
use native.Mathlib.Omega.{arith}
use lib.ListN.{length, get_or}
use Rattle.bits.specs.Bits.{value_code, run_code, Stream}
use Rattle.bits.specs.Read.{Symbol, run, value, read_symbol}
use Rattle.bits.proofs.Codes.{At, at_append, value_back, run_back}

-- what a code stands for: a run of n zeros, or a value by its code number
pub data Meaning : Type 0 where
  a_run : (n : ℕ) → 1 ≤ n → n < 2 ^ 56 → Meaning
  a_value : (c : ℕ) → 2 ≤ c → c < 2 ^ 56 → Meaning

abbrev pub bits_for : Meaning → List Bool
bits_for (a_run n l h) = run_code n
bits_for (a_value c l h) = value_code c

-- a run or value and its number
abbrev pub kind_of : Meaning → ℕ → Symbol
kind_of (a_run n l h) q = run n q
kind_of (a_value c l h) q = value c q

run_reads : (n : ℕ) (s : Stream) (p : ℕ) → 1 ≤ n → n < 2 ^ 56 → At s p (run_code n) → read_symbol s p ≡ run n (p + length (run_code n))
run_reads zero s p l h a = absurd (omega arith)
run_reads (suc n) s p l h a = run_back s p n h a

-- each code reads as what it stands for, with anything before and after
pub reads : (m : Meaning) (s : Stream) (p : ℕ) → At s p (bits_for m) → read_symbol s p ≡ kind_of m (p + length (bits_for m))
reads (a_run n l h) s p a = run_reads n s p l h a
reads (a_value c l h) s p a = value_back s p c l h a

own : (pre bs : List Bool) → At (λ i. get_or (pre ++ bs) i false) (length pre) bs
own pre [] = tt
own pre (b ∷ bs) = (first pre, subst (λ (n : ℕ). At (λ i. get_or (pre ++ (b ∷ bs)) i false) n bs) more (subst (λ (l : List Bool). At (λ i. get_or l i false) (length (pre ++ (b ∷ []))) bs) regroup (own (pre ++ (b ∷ [])) bs)))
  where
    first : (l : List Bool) → get_or (l ++ (b ∷ bs)) (length l) false ≡ b
    first [] = refl
    first (x ∷ l) = first l

    grown : (l : List Bool) → length (l ++ (b ∷ [])) ≡ suc (length l)
    grown [] = refl
    grown (x ∷ l) = ap suc (grown l)

    more : length (pre ++ (b ∷ [])) ≡ suc (length pre)
    more = grown pre

    join : (l : List Bool) → (l ++ (b ∷ [])) ++ bs ≡ l ++ (b ∷ bs)
    join [] = refl
    join (x ∷ l) = ap (λ (y : List Bool). x ∷ y) (join l)

    regroup : (pre ++ (b ∷ [])) ++ bs ≡ pre ++ (b ∷ bs)
    regroup = join pre

-- of two codes one of which begins the other both stand for the same
pub no_code_begins_another : (x y : Meaning) (rest : List Bool) → bits_for y ≡ bits_for x ++ rest → (q : ℕ) → kind_of x q ≡ kind_of y q
no_code_begins_another x y rest e q = same x y (length (bits_for x)) (length (bits_for y)) (sym first ∙ second)
  where
    s : Stream
    s i = get_or (bits_for y) i false

    whole : At s 0 (bits_for y)
    whole = own [] (bits_for y)

    first : read_symbol s 0 ≡ kind_of x (0 + length (bits_for x))
    first = reads x s 0 (at_append s 0 (bits_for x) rest (subst (At s 0) e whole)).0

    second : read_symbol s 0 ≡ kind_of y (0 + length (bits_for y))
    second = reads y s 0 whole

    same : (m k : Meaning) (a b : ℕ) → kind_of m (0 + a) ≡ kind_of k (0 + b) → kind_of m q ≡ kind_of k q
    same (a_run n l h) (a_run n' l' h') a b f = let z : n ≡ n' = cc in ap (λ (x : ℕ). run x q) z
    same (a_run n l h) (a_value c l' h') a b f = cc
    same (a_value c l h) (a_run n l' h') a b f = cc
    same (a_value c l h) (a_value c' l' h') a b f = let z : c ≡ c' = cc in ap (λ (x : ℕ). value x q) z
