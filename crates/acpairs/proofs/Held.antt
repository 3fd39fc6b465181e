-- What an entry says of the next ten bits is what the reader reads there: antt computes a test at each of the 1,024 ten bits.
use mathlib.Core.Path.{◌≡◌, refl, ap, ap₂, ◌∙◌}
use mathlib.Core.Bool.{Bool, true, false, ◌&&◌, ◌||◌}
use mathlib.Core.Logic.{inl, inr}
use mathlib.Core.List.{List, [], ◌∷◌}
use Prim.Native.Nat.{ℕ, ◌+◌, ◌-◌, ◌<◌}
use lib.Dec.{T, eqb, leb, ltb, eqb→eq, leb→le, ltb→lt}
use lib.IntN.{ℤ, pos, negsuc}
use mir.Facts.{and_yes, or_yes}
use Rattle.scalar.specs.Scalar.{wrap16}
use Rattle.bits.specs.Bits.{Stream, num}
use Rattle.bits.specs.Read.{zeros, tail_at, read_tail, Symbol, bad_symbol, run, value, read_symbol}
use Rattle.bits.specs.Signed.{signed_of}
use Rattle.tables.proofs.Every.{every}
use Rattle.acpairs.specs.Pairs.{ten_bits, look_of}
use Rattle.acpairs.specs.Parts.{taken_of, before_last, places_of, first_value, last_value, Sym, a_value_lem, a_run_lem, Held, none, one, two}
use Rattle.acpairs.proofs.Alike.{held_alike}
use Rattle.acpairs.proofs.Ten.{ten_alike, ten_less}

-- ---- tests that all pass

abbrev all : List Bool → Bool
all [] = true
all (b ∷ bs) = b && all bs

abbrev Each : List Bool → Type 0
Each [] = Unit {0}
Each (b ∷ bs) = T b × Each bs

each : (bs : List Bool) → T (all bs) → Each bs
each [] t = tt
each (b ∷ bs) t =
    let r = and_yes b (all bs) t in
    (r.0, each bs r.1)

abbrev eq_z : ℤ → ℤ → Bool
eq_z (pos m) (pos n) = eqb m n
eq_z (pos m) (negsuc n) = false
eq_z (negsuc m) (pos n) = false
eq_z (negsuc m) (negsuc n) = eqb m n

eq_z→eq : (a b : ℤ) → T (eq_z a b) → a ≡ b
eq_z→eq (pos m) (pos n) t = ap pos (eqb→eq m n t)
eq_z→eq (pos m) (negsuc n) t = absurd t
eq_z→eq (negsuc m) (pos n) t = absurd t
eq_z→eq (negsuc m) (negsuc n) t = ap negsuc (eqb→eq m n t)

-- ---- the tests of a symbol and of an entry

abbrev symbol : Symbol → ℕ → ℕ → ℤ → List Bool
symbol bad_symbol q m v = false ∷ []
symbol (run n r) q m v = eqb r q ∷ eqb n m ∷ ltb 0 m ∷ eq_z v (pos 0) ∷ []
symbol (value c r) q m v = eqb r q ∷ eqb m 1 ∷ eq_z v (signed_of c) ∷ []

is_sym : (s : Stream) (p q m : ℕ) (v : ℤ) → T (all (symbol (read_symbol s p) q m v)) → Sym s p q m v
is_sym s p q m v = go (read_symbol s p) refl
  where
    go : (x : Symbol) → read_symbol s p ≡ x → T (all (symbol x q m v)) → Sym s p q m v
    go bad_symbol e t = absurd t
    go (run n r) e t =
        let a = each (symbol (run n r) q m v) t in
        a_run_lem (e ∙ ap₂ run (eqb→eq n m a.1.0) (eqb→eq r q a.0)) (ltb→lt 0 m a.1.1.0) (eq_z→eq v (pos 0) a.1.1.1.0)
    go (value c r) e t =
        let a = each (symbol (value c r) q m v) t in
        a_value_lem c (e ∙ ap (value c) (eqb→eq r q a.0)) (eqb→eq m 1 a.1.0) (eq_z→eq v (signed_of c) a.1.1.0)

module _ (s : Stream) (p e : ℕ) where
  abbrev ones : List Bool
  ones = ltb 0 (taken_of e) ∷ leb (taken_of e) 10 ∷ eqb (before_last e) 0 ∷ eq_z (last_value e) (first_value e)
      ∷ all (symbol (read_symbol s p) (p + taken_of e) (places_of e) (first_value e)) ∷ []

  is_one : T (all ones) → Held s p e
  is_one t =
      let a = each ones t in
      one (ltb→lt 0 (taken_of e) a.0) (leb→le (taken_of e) 10 a.1.0) (eqb→eq (before_last e) 0 a.1.1.0)
      (eq_z→eq (last_value e) (first_value e) a.1.1.1.0) (is_sym s p (p + taken_of e) (places_of e) (first_value e) a.1.1.1.1.0)

  -- the first symbol has n bits
  abbrev twos : ℕ → List Bool
  twos n = ltb 0 (taken_of e) ∷ leb n (taken_of e) ∷ leb (taken_of e) 10 ∷ ltb 0 (before_last e) ∷ ltb (before_last e) (places_of e)
      ∷ all (symbol (read_symbol s p) (p + n) (before_last e) (first_value e))
      ∷ all (symbol (read_symbol s (p + n)) (p + taken_of e) (places_of e - before_last e) (last_value e)) ∷ []

  is_two : (n : ℕ) → T (all (twos n)) → Held s p e
  is_two n t =
      let a = each (twos n) t in
      two n (ltb→lt 0 (taken_of e) a.0) (leb→le n (taken_of e) a.1.0) (leb→le (taken_of e) 10 a.1.1.0)
      (ltb→lt 0 (before_last e) a.1.1.1.0) (ltb→lt (before_last e) (places_of e) a.1.1.1.1.0)
      (is_sym s p (p + n) (before_last e) (first_value e) a.1.1.1.1.1.0)
      (is_sym s (p + n) (p + taken_of e) (places_of e - before_last e) (last_value e) a.1.1.1.1.1.1.0)

  abbrev size_of : Symbol → ℕ
  size_of bad_symbol = 0
  size_of (run n q) = q - p
  size_of (value c q) = q - p

  abbrev holds : Bool
  holds = eqb (before_last e) 64 || (all ones || all (twos (size_of (read_symbol s p))))

  is_held : T holds → Held s p e
  is_held t = elim (or_yes (eqb (before_last e) 64) (all ones || all (twos (size_of (read_symbol s p)))) t) [
    | inl a ↦ none (eqb→eq (before_last e) 64 a)
    | inr b ↦ elim (or_yes (all ones) (all (twos (size_of (read_symbol s p)))) b) [ inl a ↦ is_one a | inr a ↦ is_two (size_of (read_symbol s p)) a ]
  ]

-- ---- all ten bits

right : ℕ → Bool
unfolding look_of ten_bits read_symbol read_tail tail_at zeros num signed_of wrap16
right k = holds (ten_bits k) 0 (look_of k)

pub held_ten : (k : ℕ) → k < 1024 → Held (ten_bits k) 0 (look_of k)
unfolding right look_of ten_bits read_symbol read_tail tail_at zeros num signed_of wrap16
held_ten k h = is_held (ten_bits k) 0 (look_of k) (every right 1024 tt k h)

pub held : (s : Stream) (p : ℕ) → Held s p (look_of (num 10 0 s p))
held s p = held_alike p (look_of (num 10 0 s p)) (ten_bits (num 10 0 s p)) s (ten_alike s p) (held_ten (num 10 0 s p) (ten_less s p))
