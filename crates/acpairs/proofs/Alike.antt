-- A symbol that ends within the first n bits is read alike from every stream that has those bits. Assumes nothing.
use mathlib.Core.Path.{◌≡◌, refl, sym, ap, ap₂, subst, ◌∙◌}
use mathlib.Core.Bool.{Bool, true, false}
use Prim.Native.Nat.{ℕ, zero, suc, ◌+◌, ◌*◌, ◌-◌, ◌≤◌, ◌<◌}
use native.Mathlib.Nat.{add-zero, zero-add, add-suc, add_assoc}
use native.Mathlib.Omega.{arith}
use lib.Dec.{leb}
use lib.IntN.{ℤ}
use Rattle.bits.specs.Bits.{Stream, bit, num}
use Rattle.bits.specs.Read.{max_zeros, unless_one, zeros, Tail, bad_tail, number, pick_tail, tail_at, read_tail, Symbol, bad_symbol, run, value, as_run, as_value, by_head, read_symbol}
use Rattle.acpairs.specs.Parts.{taken_of, before_last, places_of, first_value, last_value, Sym, a_value_lem, a_run_lem, Held, none, one, two}

-- the first n bits of t are those of s at p
abbrev pub Alike : ℕ → Stream → Stream → ℕ → Type 0
Alike n t s p = (j : ℕ) → j < n → t j ≡ s (p + j)

-- what is read ends within n bits
abbrev TailIn : ℕ → Tail → Type 0
TailIn n bad_tail = ⊥
TailIn n (number c q) = q ≤ n

abbrev In : ℕ → Symbol → Type 0
In n bad_symbol = ⊥
In n (run m q) = q ≤ n
In n (value c q) = q ≤ n

-- the same, p bits on
abbrev tail_on : ℕ → Tail → Tail
tail_on p bad_tail = bad_tail
tail_on p (number c q) = number c (p + q)

abbrev on : ℕ → Symbol → Symbol
on p bad_symbol = bad_symbol
on p (run m q) = run m (p + q)
on p (value c q) = value c (p + q)

module _ (n p : ℕ) (t s : Stream) (h : Alike n t s p) where
  zeros_alike : (f i : ℕ) → i + zeros f t i < n → zeros f s (p + i) ≡ zeros f t i
  unfolding zeros
  zeros_alike zero i l = refl
  zeros_alike (suc f) i l = go (t i) refl l (λ k. zeros_alike f (suc i) k)
    where
      go : (b : Bool) → t i ≡ b → i + unless_one b (zeros f t (suc i)) < n
          → (suc i + zeros f t (suc i) < n → zeros f s (p + suc i) ≡ zeros f t (suc i)) → unless_one (s (p + i)) (zeros f s (suc (p + i))) ≡ unless_one b (zeros f t (suc i))
      go true e k r =
          let g : s (p + i) ≡ true = sym (h i (omega arith)) ∙ e in
          rw g refl
      go false e k r =
          let g : s (p + i) ≡ false = sym (h i (omega arith)) ∙ e in
          rw g (ap suc (ap (zeros f s) (sym (add-suc p i)) ∙ r (omega arith)))

  num_alike : (k a i : ℕ) → i + k ≤ n → num k a s (p + i) ≡ num k a t i
  unfolding num
  num_alike zero a i l = refl
  num_alike (suc k) a i l =
      ap (λ (b : Bool). num k (a * 2 + bit b) s (suc (p + i))) (sym (h i (omega arith)))
      ∙ ap (num k (a * 2 + bit (t i)) s) (sym (add-suc p i)) ∙ num_alike k (a * 2 + bit (t i)) (suc i) (omega arith)

  tail_alike : (i : ℕ) → TailIn n (read_tail t i) → (i + 2 ≤ n) × (read_tail s (p + i) ≡ tail_on p (read_tail t i))
  unfolding read_tail tail_at
  tail_alike i = go (zeros (suc max_zeros) t i) refl (leb (zeros (suc max_zeros) t i) max_zeros) refl
    where
      go : (z : ℕ) → zeros (suc max_zeros) t i ≡ z → (b : Bool) → leb z max_zeros ≡ b
          → TailIn n (pick_tail b (number (num (suc (suc z)) 0 t (i + z)) (i + z + suc (suc z))) bad_tail)
          → (i + 2 ≤ n) × (tail_at s (p + i) (zeros (suc max_zeros) s (p + i)) ≡ tail_on p (pick_tail b (number (num (suc (suc z)) 0 t (i + z)) (i + z + suc (suc z))) bad_tail))
      go z e false f k = absurd k
      go z e true f k =
          let same : zeros (suc max_zeros) s (p + i) ≡ z = zeros_alike (suc max_zeros) i (omega (arith, e)) ∙ e in
          let digits : num (suc (suc z)) 0 s (p + i + z) ≡ num (suc (suc z)) 0 t (i + z) = ap (num (suc (suc z)) 0 s) (add_assoc p i z) ∙ num_alike (suc (suc z)) 0 (i + z) k in
          let end : p + i + z + suc (suc z) ≡ p + (i + z + suc (suc z)) = omega arith in
          (omega arith, rw (same, f) (ap₂ number digits end))

  symbol_alike : (i : ℕ) → In n (read_symbol t i) → read_symbol s (p + i) ≡ on p (read_symbol t i)
  unfolding read_symbol
  symbol_alike i = go (t i) refl (t (suc i)) refl
    where
      as_value_lem : (a b : Tail) → a ≡ tail_on p b → as_value a ≡ on p (as_value b)
      as_value_lem a bad_tail e = ap as_value e
      as_value_lem a (number c q) e = ap as_value e

      as_run_lem : (a b : Tail) → a ≡ tail_on p b → as_run a ≡ on p (as_run b)
      as_run_lem a bad_tail e = ap as_run e
      as_run_lem a (number c q) e = ap as_run e

      in_value : (b : Tail) → In n (as_value b) → TailIn n b
      in_value bad_tail k = k
      in_value (number c q) k = k

      in_run : (b : Tail) → In n (as_run b) → TailIn n b
      in_run bad_tail k = k
      in_run (number c q) k = k

      go : (a : Bool) → t i ≡ a → (b : Bool) → t (suc i) ≡ b → In n (by_head t i a b) → by_head s (p + i) (s (p + i)) (s (suc (p + i))) ≡ on p (by_head t i a b)
      go false e b f k =
          let r = tail_alike (suc i) (in_value (read_tail t (suc i)) k) in
          let g : s (p + i) ≡ false = sym (h i (omega (arith, r.0))) ∙ e in
          rw g (ap (λ (j : ℕ). as_value (read_tail s j)) (sym (add-suc p i)) ∙ as_value_lem (read_tail s (p + suc i)) (read_tail t (suc i)) r.1)
      go true e false f k =
          let r = tail_alike (suc (suc i)) (in_run (read_tail t (suc (suc i))) k) in
          let g : s (p + i) ≡ true = sym (h i (omega (arith, r.0))) ∙ e in
          let g2 : s (suc (p + i)) ≡ false = ap s (sym (add-suc p i)) ∙ sym (h (suc i) (omega (arith, r.0))) ∙ f in
          let at : suc (suc (p + i)) ≡ p + suc (suc i) = omega arith in
          rw (g, g2) (ap (λ (j : ℕ). as_run (read_tail s j)) at ∙ as_run_lem (read_tail s (p + suc (suc i))) (read_tail t (suc (suc i))) r.1)
      go true e true f k =
          let g : s (p + i) ≡ true = sym (h i (omega arith)) ∙ e in
          let g2 : s (suc (p + i)) ≡ true = ap s (sym (add-suc p i)) ∙ sym (h (suc i) (omega arith)) ∙ f in
          rw (g, g2) (ap (run 1) (omega arith))

  sym_alike : (i q m : ℕ) (v : ℤ) → q ≤ n → Sym t i q m v → Sym s (p + i) (p + q) m v
  sym_alike i q m v l (a_value_lem c e f g) = a_value_lem c (symbol_alike i (subst (In n) (sym e) l) ∙ ap (on p) e) f g
  sym_alike i q m v l (a_run_lem e f g) = a_run_lem (symbol_alike i (subst (In n) (sym e) l) ∙ ap (on p) e) f g

-- what an entry says of the bits of t, all ten, it says of those of s
pub held_alike : (p e : ℕ) (t s : Stream) → Alike 10 t s p → Held t 0 e → Held s p e
held_alike p e t s h = go
  where
    later : (i q m : ℕ) (v : ℤ) → q ≤ 10 → Sym t (0 + i) (0 + q) m v → Sym s (p + i) (p + q) m v
    later i q m v l y = sym_alike 10 p t s h i q m v l (rw (zero-add i, zero-add q) at y)

    first : (q m : ℕ) → q ≤ 10 → Sym t 0 (0 + q) m (first_value e) → Sym s p (p + q) m (first_value e)
    first q m l y = rw (add-zero p) at (sym_alike 10 p t s h 0 q m (first_value e) l (rw (zero-add q) at y))

    go : Held t 0 e → Held s p e
    go (none a) = none a
    go (one a b c d y) = one a b c d (first (taken_of e) (places_of e) b y)
    go (two n a b c d f y z) =
        two n a b c d f (first n (before_last e) (omega arith) y) (later n (taken_of e) (places_of e - before_last e) (last_value e) c z)
