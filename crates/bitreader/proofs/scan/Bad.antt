-- Where no six zero bytes stand in a row, no code is bad. Assumes nothing.
use mathlib.Core.Path.{◌≡◌, refl, sym, ap, ◌∙◌}
use mathlib.Core.Bool.{Bool, true, false}
use mathlib.Core.Logic.{⊎_elim}
use mathlib.Core.List.{List}
use Prim.Native.Nat.{ℕ, suc, ◌+◌, ◌-◌, ◌*◌, ◌/◌, ◌^◌, ◌≤◌, ◌<◌}
use native.Mathlib.Nat.{zero-div}
use native.Mathlib.Omega.{arith}
use lib.ListN.{drop, get_or}
use Rattle.bits.specs.Bits.{Stream, odd, bit_at, num}
use Rattle.bits.specs.Read.{zeros, Tail, bad_tail, number, read_tail, bad_symbol, as_run, as_value, by_head, read_symbol, bad_dc, as_step, by_first, read_dc}
use Rattle.bitreader.proofs.words.Num.{num_of, zeros_all}
use Rattle.bitreader.proofs.words.Words.{byte_most, num_byte}
use Rattle.bitreader.proofs.Leads.{lt_or_ge}
use Rattle.bitreader.proofs.Spans.{number_at}
use Rattle.bitreader.specs.scan.Six.{no_six_zeros}
use Rattle.bitreader.proofs.scan.Rows.{no_six_from, zero_from}

-- a bad tail is 55 zeros
bad_zeros : (s : Stream) (p : ℕ) → read_tail s p ≡ bad_tail → 55 ≤ zeros 55 s p
unfolding read_tail
bad_zeros s p h = ⊎_elim
    (λ l. let n : number (num (suc (suc (zeros 55 s p))) 0 s (p + zeros 55 s p)) (p + zeros 55 s p + suc (suc (zeros 55 s p))) ≡ bad_tail = sym (number_at s p (zeros 55 s p) (omega arith)) ∙ h in let z : ◌≡◌ {A = ℕ} 0 1 = cc in absurd (omega arith))
    (λ l. l) (lt_or_ge (zeros 55 s p) 55)

-- eight zero bits are a zero byte
zero_byte : (l : List ℕ) (i : ℕ) → get_or l i 255 < 256 → ((j : ℕ) → j < 8 → bit_at l (8 * i + j) ≡ false) → get_or l i 255 ≡ 0
zero_byte l i b h = sym (num_byte l i b) ∙ num_of 8 0 (bit_at l) (8 * i) (λ j g. h j g ∙ sym (ap odd (zero-div (2 ^ (8 - suc j)))))

module _ (l : List ℕ) (bytes : (j : ℕ) → get_or l j 0 < 256) (from : ℕ) (clean : no_six_zeros (drop from l) ≡ true) where
  -- the six bytes from the first whole byte on
  pub no_bad_tail : (p : ℕ) → 8 * from ≤ p → read_tail (bit_at l) p ≡ bad_tail → ⊥
  no_bad_tail p h bad = no_six_from l from ((p + 7) / 8) (omega arith) clean (zero_from 6 l ((p + 7) / 8) (λ k g.
      zero_byte l ((p + 7) / 8 + k) (byte_most l bytes ((p + 7) / 8 + k)) (λ j f. zero_bit (8 * ((p + 7) / 8 + k) + j) (omega arith) (omega arith))))
    where
      zero_bit : (q : ℕ) → p ≤ q → q < p + 55 → bit_at l q ≡ false
      zero_bit q a b = let e : p + (q - p) ≡ q = omega arith in ap (bit_at l) (sym e) ∙ zeros_all 55 (bit_at l) p (q - p) (omega (arith, bad_zeros (bit_at l) p bad))

  pub no_bad_symbol : (p : ℕ) → 8 * from ≤ p → read_symbol (bit_at l) p ≡ bad_symbol → ⊥
  unfolding read_symbol
  no_bad_symbol p h bad = go (bit_at l p) (bit_at l (suc p)) bad
    where
      value_bad : (t : Tail) → as_value t ≡ bad_symbol → t ≡ bad_tail
      value_bad bad_tail e = refl
      value_bad (number n q) e = let z : ◌≡◌ {A = ℕ} 0 1 = cc in absurd (omega arith)

      run_bad : (t : Tail) → as_run t ≡ bad_symbol → t ≡ bad_tail
      run_bad bad_tail e = refl
      run_bad (number n q) e = let z : ◌≡◌ {A = ℕ} 0 1 = cc in absurd (omega arith)

      go : (b d : Bool) → by_head (bit_at l) p b d ≡ bad_symbol → ⊥
      go false d e = no_bad_tail (suc p) (omega arith) (value_bad (read_tail (bit_at l) (suc p)) e)
      go true false e = no_bad_tail (suc (suc p)) (omega arith) (run_bad (read_tail (bit_at l) (suc (suc p))) e)
      go true true e = let z : ◌≡◌ {A = ℕ} 0 1 = cc in absurd (omega arith)

  pub no_bad_dc : (p : ℕ) → 8 * from ≤ p → read_dc (bit_at l) p ≡ bad_dc → ⊥
  unfolding read_dc
  no_bad_dc p h bad = go (bit_at l p) bad
    where
      step_bad : (t : Tail) → as_step t ≡ bad_dc → t ≡ bad_tail
      step_bad bad_tail e = refl
      step_bad (number n q) e = let z : ◌≡◌ {A = ℕ} 0 1 = cc in absurd (omega arith)

      go : (b : Bool) → by_first (bit_at l) p b ≡ bad_dc → ⊥
      go false e = no_bad_tail (suc p) (omega arith) (step_bad (read_tail (bit_at l) (suc p)) e)
      go true e = let z : ◌≡◌ {A = ℕ} 0 1 = cc in absurd (omega arith)
