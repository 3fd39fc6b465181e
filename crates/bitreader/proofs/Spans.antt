-- One form for all codes: from a place with y zeros, y + 1 bits after them are the number. Assumes nothing.
use mathlib.Core.Path.{◌≡◌, refl, sym, ap, ap₂, ◌∙◌}
use mathlib.Core.Bool.{Bool, true, false}
use mathlib.Core.Logic.{⊎_elim}
use Prim.Native.Nat.{ℕ, suc, ◌+◌, ◌-◌, ◌*◌, ◌^◌, ◌≤◌, ◌<◌}
use native.Mathlib.Nat.{add-zero, lt_of_lt_of_le}
use native.Mathlib.Omega.{arith}
use borrow.Author.Tests.{le-leb, lt-leb}
use lib.Dec.{leb, leb-suc-suc}
use lib.Pow.{pow_mono, pow_pos}
use lib.Count.{count_leading_zeros}
use Rattle.std.specs.Prelude.{Option, Some, None}
use Rattle.bits.specs.Bits.{bit, Stream, num}
use Rattle.bits.specs.Read.{zeros, Tail, bad_tail, number, pick_tail, tail_at, read_tail, bad_symbol, run, value, as_run, as_value, by_head, read_symbol, bad_dc, zero_step, step, as_step, by_first, read_dc}
use Rattle.bitreader.specs.words.Word.{number_of}
use Rattle.bitreader.specs.Cursor.{symbol_by, dc_by}
use Rattle.bitreader.proofs.words.Num.{num_lt, zeros_one}
use Rattle.bitreader.proofs.Leads.{lt_or_ge, lead_is, one_first}

span : Stream → ℕ → ℕ → Tail
span s q y = pick_tail (leb y 55) (number (num (suc y) 0 s (q + y)) (q + y + suc y)) bad_tail

zeros_suc : (f : ℕ) (s : Stream) (q : ℕ) → s q ≡ false → zeros (suc f) s q ≡ suc (zeros f s (suc q))
unfolding zeros
zeros_suc f s q h = rw h

zeros_zero : (f : ℕ) (s : Stream) (q : ℕ) → s q ≡ true → zeros (suc f) s q ≡ 0
unfolding zeros
zeros_zero f s q h = rw h

tail_suc : (s : Stream) (q z : ℕ) → tail_at s (suc q) z ≡ span s q (suc z)
unfolding tail_at span
tail_suc s q z =
    let e : suc q + z ≡ q + suc z = omega arith in
    rw (e, leb-suc-suc z 54)

-- a tail, from the zero before it
tail_span : (s : Stream) (q : ℕ) → s q ≡ false → read_tail s (suc q) ≡ span s q (zeros 56 s q)
unfolding read_tail
tail_span s q h = tail_suc s q (zeros 55 s (suc q)) ∙ ap (span s q) (sym (zeros_suc 55 s q h))

span_number : (s : Stream) (q y : ℕ) → y ≤ 55 → span s q y ≡ number (num (suc y) 0 s (q + y)) (q + y + suc y)
unfolding span
span_number s q y h = rw (le-leb y 55 h)

span_bad : (s : Stream) (q y : ℕ) → 55 < y → span s q y ≡ bad_tail
unfolding span
span_bad s q y h = rw (lt-leb y 55 h)

tail_number : (s : Stream) (q y : ℕ) → s q ≡ false → zeros 56 s q ≡ y → y ≤ 55 → read_tail s (suc q) ≡ number (num (suc y) 0 s (q + y)) (q + y + suc y)
tail_number s q y h e l = tail_span s q h ∙ ap (span s q) e ∙ span_number s q y l

-- ---- by the first bit

value_at : (s : Stream) (p : ℕ) → s p ≡ false → read_symbol s p ≡ as_value (read_tail s (suc p))
unfolding read_symbol
value_at s p h = ap (λ (b : Bool). by_head s p b (s (suc p))) h

run_at : (s : Stream) (p : ℕ) → s p ≡ true → s (suc p) ≡ false → read_symbol s p ≡ as_run (read_tail s (suc (suc p)))
unfolding read_symbol
run_at s p h k = ap₂ (λ (b d : Bool). by_head s p b d) h k

one_at : (s : Stream) (p : ℕ) → s p ≡ true → s (suc p) ≡ true → read_symbol s p ≡ run 1 (suc (suc p))
unfolding read_symbol
one_at s p h k = ap₂ (λ (b d : Bool). by_head s p b d) h k

step_at : (s : Stream) (p : ℕ) → s p ≡ false → read_dc s p ≡ as_step (read_tail s (suc p))
unfolding read_dc
step_at s p h = ap (by_first s p) h

zero_at : (s : Stream) (p : ℕ) → s p ≡ true → read_dc s p ≡ zero_step (suc (suc p))
unfolding read_dc
zero_at s p h = ap (by_first s p) h

one_bit : (s : Stream) (p : ℕ) → s p ≡ true → num 1 0 s p ≡ 1
unfolding num
one_bit s p h = rw h

-- a run, from the bit after its head
run_number : (s : Stream) (p y : ℕ) → s p ≡ true → zeros 56 s (suc p) ≡ y → y ≤ 55 → read_symbol s p ≡ run (num (suc y) 0 s (suc p + y)) (suc p + y + suc y)
run_number s p y h e l = go (s (suc p)) refl
  where
    go : (b : Bool) → s (suc p) ≡ b → read_symbol s p ≡ run (num (suc y) 0 s (suc p + y)) (suc p + y + suc y)
    go false k = run_at s p h k ∙ ap as_run (tail_number s (suc p) y k e l)
    go true k =
        let z : y ≡ 0 = sym e ∙ zeros_zero 55 s (suc p) k in
        let n : num 1 0 s (suc p + 0) ≡ 1 = ap (num 1 0 s) (add-zero (suc p)) ∙ one_bit s (suc p) k in
        one_at s p h k ∙ sym (ap (λ (x : ℕ). run (num (suc x) 0 s (suc p + x)) (suc p + x + suc x)) z ∙ ap₂ run n (omega arith))

-- ---- what the code has: the head bit r, y zeros after it, the number n, the place q

pub symbol_short : (s : Stream) (p r y n q : ℕ) → r ≡ bit (s p) → y ≡ zeros 56 s (p + r) → y ≤ 55 → n ≡ num (suc y) 0 s (p + r + y) → q ≡ p + (2 * y + 1 + r)
    → symbol_by n r q ≡ read_symbol s p
symbol_short s p r y n q er ey l en eq = go (s p) refl
  where
    go : (b : Bool) → s p ≡ b → symbol_by n r q ≡ read_symbol s p
    go false k =
        let r0 : r ≡ 0 = er ∙ ap bit k in
        let e0 : p + r ≡ p = omega arith in
        let e1 : q ≡ p + y + suc y = omega arith in
        ap (λ (x : ℕ). symbol_by n x q) r0
        ∙ ap₂ value (en ∙ ap (λ (x : ℕ). num (suc y) 0 s (x + y)) e0) e1
        ∙ sym (value_at s p k ∙ ap as_value (tail_number s p y k (sym (ey ∙ ap (zeros 56 s) e0)) l))
    go true k =
        let r1 : r ≡ 1 = er ∙ ap bit k in
        let e0 : p + r ≡ suc p = omega arith in
        let e1 : q ≡ suc p + y + suc y = omega arith in
        ap (λ (x : ℕ). symbol_by n x q) r1
        ∙ ap₂ run (en ∙ ap (λ (x : ℕ). num (suc y) 0 s (x + y)) e0) e1
        ∙ sym (run_number s p y k (sym (ey ∙ ap (zeros 56 s) e0)) l)

pub dc_short : (s : Stream) (p r y n q : ℕ) → r ≡ bit (s p) → y ≡ zeros 56 s p → y ≤ 55 → n ≡ num (suc y) 0 s (p + y) → q ≡ p + (2 * y + 1 + r)
    → dc_by n r q ≡ read_dc s p
dc_short s p r y n q er ey l en eq = go (s p) refl
  where
    go : (b : Bool) → s p ≡ b → dc_by n r q ≡ read_dc s p
    go false k =
        let r0 : r ≡ 0 = er ∙ ap bit k in
        let e1 : q ≡ p + y + suc y = omega arith in
        ap (λ (x : ℕ). dc_by n x q) r0 ∙ ap₂ step en e1
        ∙ sym (step_at s p k ∙ ap as_step (tail_number s p y k (sym ey) l))
    go true k =
        let r1 : r ≡ 1 = er ∙ ap bit k in
        let z : y ≡ 0 = ey ∙ zeros_zero 55 s p k in
        let e1 : q ≡ suc (suc p) = omega arith in
        ap (λ (x : ℕ). dc_by n x q) r1 ∙ ap zero_step e1 ∙ sym (zero_at s p k)

-- ---- any tail after a zero, by its number: none is bad, and the others' length is that of their digits

clash : {v : ℕ} → None ≡ Some v → ⊥
clash e = let z : ◌≡◌ {A = ℕ} 0 1 = cc in omega arith

some_is : {v n : ℕ} → Some v ≡ Some n → v ≡ n
some_is e = cc

bad_by : (t : Tail) → None ≡ number_of t → t ≡ bad_tail
bad_by bad_tail e = refl
bad_by (number n q) e = absurd (clash e)

pub record Found (s : Stream) (q v : ℕ) : Type 0 where
  pub more : 0 < v
  pub low : 2 ≤ 64 - count_leading_zeros 64 v
  pub high : 64 - count_leading_zeros 64 v ≤ 56
  pub small : v < 2 ^ 56
  pub is : read_tail s (suc q) ≡ number v (q + (2 * (64 - count_leading_zeros 64 v) - 1))

module _ (s : Stream) (q v : ℕ) (h : s q ≡ false) (e : Some v ≡ number_of (read_tail s (suc q))) where
  is_bad : 55 < zeros 56 s q → read_tail s (suc q) ≡ bad_tail
  is_bad k = tail_span s q h ∙ span_bad s q (zeros 56 s q) k

  first_one : (y : ℕ) → zeros 56 s q ≡ y → y ≤ 55 → 2 ^ y ≤ num (suc y) 0 s (q + y)
  first_one y g k = one_first y s (q + y) (ap (λ (x : ℕ). s (q + x)) (sym g) ∙ zeros_one 56 s q (omega arith))

  found : (y : ℕ) → zeros 56 s q ≡ y → y ≤ 55 → 0 < y → Found s q v
  found y g k o =
      let n : v ≡ num (suc y) 0 s (q + y) = some_is (e ∙ ap number_of (tail_number s q y h g k)) in
      let lo : 2 ^ y ≤ v = rw n (first_one y g k) in
      let hi : v < 2 ^ suc y = rw n (num_lt (suc y) s (q + y)) in
      let d : count_leading_zeros 64 v ≡ 63 - y = lead_is y v (omega arith) lo hi in
      let m : suc y ≤ 56 = omega arith in
      let f : q + y + suc y ≡ q + (2 * (64 - count_leading_zeros 64 v) - 1) = omega arith in
      record {
        more = omega (arith, lo, pow_pos y);
        low = omega arith;
        high = omega arith;
        small = lt_of_lt_of_le hi (pow_mono m);
        is = tail_number s q y h g k ∙ ap₂ number (sym n) f;
      }

  pub tail_found : Found s q v
  tail_found =
      ⊎_elim (λ k. absurd (clash (sym (e ∙ ap number_of (is_bad k)))))
      (λ k. found (zeros 56 s q) refl k (omega (arith, zeros_suc 55 s q h)))
      (lt_or_ge 55 (zeros 56 s q))

-- a symbol by the tail after its head r
module _ (s : Stream) (p r : ℕ) (er : r ≡ bit (s p)) (h : s (p + r) ≡ false) where
  after : {t : Option ℕ} → t ≡ number_of (read_tail s (p + 1 + r)) → t ≡ number_of (read_tail s (suc (p + r)))
  after e =
      let e0 : p + 1 + r ≡ suc (p + r) = omega arith in
      e ∙ ap (λ (x : ℕ). number_of (read_tail s x)) e0

  pub symbol_bad : None ≡ number_of (read_tail s (p + 1 + r)) → bad_symbol ≡ read_symbol s p
  symbol_bad e = go (s p) refl
    where
      go : (b : Bool) → s p ≡ b → bad_symbol ≡ read_symbol s p
      go false k =
          let e0 : p + r ≡ p = omega (arith, er, ap bit k) in
          sym (value_at s p k ∙ ap as_value (ap (λ (x : ℕ). read_tail s (suc x)) (sym e0) ∙ bad_by (read_tail s (suc (p + r))) (after e)))
      go true k =
          let e0 : p + r ≡ suc p = omega (arith, er, ap bit k) in
          sym (run_at s p k (ap s (sym e0) ∙ h) ∙ ap as_run (ap (λ (x : ℕ). read_tail s (suc x)) (sym e0) ∙ bad_by (read_tail s (suc (p + r))) (after e)))

  module _ (v : ℕ) (e : Some v ≡ number_of (read_tail s (p + 1 + r))) where
    -- how long it is
    pub long_size : Found s (p + r) v
    long_size = tail_found s (p + r) v h (after e)

    pub symbol_long : (q : ℕ) → q ≡ p + (2 * (64 - count_leading_zeros 64 v) + r - 1) → symbol_by v r q ≡ read_symbol s p
    symbol_long q eq = go (s p) refl
      where
        q_is : q ≡ p + r + (2 * (64 - count_leading_zeros 64 v) - 1)
        q_is = omega (arith, long_size.low)

        go : (b : Bool) → s p ≡ b → symbol_by v r q ≡ read_symbol s p
        go false k =
            let r0 : r ≡ 0 = er ∙ ap bit k in
            let e0 : p + r ≡ p = omega arith in
            ap (λ (x : ℕ). symbol_by v x q) r0 ∙ ap (value v) q_is
            ∙ sym (value_at s p k ∙ ap as_value (ap (λ (x : ℕ). read_tail s (suc x)) (sym e0) ∙ long_size.is))
        go true k =
            let r1 : r ≡ 1 = er ∙ ap bit k in
            let e0 : p + r ≡ suc p = omega arith in
            ap (λ (x : ℕ). symbol_by v x q) r1 ∙ ap (run v) q_is
            ∙ sym (run_at s p k (ap s (sym e0) ∙ h) ∙ ap as_run (ap (λ (x : ℕ). read_tail s (suc x)) (sym e0) ∙ long_size.is))

-- the same of the DC stream, where a long code begins with a zero
module _ (s : Stream) (p : ℕ) (h : s p ≡ false) where
  after_zero : {t : Option ℕ} → t ≡ number_of (read_tail s (p + 1)) → t ≡ number_of (read_tail s (suc p))
  after_zero e =
      let e0 : p + 1 ≡ suc p = omega arith in
      e ∙ ap (λ (x : ℕ). number_of (read_tail s x)) e0

  pub dc_bad : None ≡ number_of (read_tail s (p + 1)) → bad_dc ≡ read_dc s p
  dc_bad e = sym (step_at s p h ∙ ap as_step (bad_by (read_tail s (suc p)) (after_zero e)))

  module _ (v : ℕ) (e : Some v ≡ number_of (read_tail s (p + 1))) where
    pub dc_size : Found s p v
    dc_size = tail_found s p v h (after_zero e)

    pub dc_long : (q : ℕ) → q ≡ p + (2 * (64 - count_leading_zeros 64 v) + 0 - 1) → dc_by v 0 q ≡ read_dc s p
    dc_long q eq =
        let e1 : q ≡ p + (2 * (64 - count_leading_zeros 64 v) - 1) = omega arith in
        ap (step v) e1 ∙ sym (step_at s p h ∙ ap as_step dc_size.is)

-- ---- a tail by the zeros before it

pub tail_no : (s : Stream) (p : ℕ) → zeros 55 s p ≡ 55 → None ≡ number_of (read_tail s p)
unfolding read_tail tail_at
tail_no s p e = sym (ap number_of (ap (tail_at s p) e))

pub number_at : (s : Stream) (p z : ℕ) → z ≤ 54 → tail_at s p z ≡ number (num (suc (suc z)) 0 s (p + z)) (p + z + suc (suc z))
unfolding tail_at
number_at s p z h = rw (le-leb z 54 h)

pub tail_yes : (s : Stream) (p z n : ℕ) → z ≡ zeros 55 s p → z ≤ 54 → n ≡ num (suc (suc z)) 0 s (p + z) → Some n ≡ number_of (read_tail s p)
unfolding read_tail
tail_yes s p z n e h en = ap Some en ∙ sym (ap number_of (ap (tail_at s p) (sym e) ∙ number_at s p z h))
