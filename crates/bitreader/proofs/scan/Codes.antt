-- Where a code ends: at its start or after it, and not far. B is what holds at a bad code: anything where one may stand, ⊥ where none does.
use mathlib.Core.Path.{◌≡◌, refl}
use mathlib.Core.Bool.{Bool, true, false}
use mathlib.Core.List.{List}
use Prim.Native.Nat.{ℕ, suc, ◌+◌, ◌*◌, ◌≤◌, ◌<◌}
use native.Mathlib.Omega.{arith}
use lib.Dec.{leb}
use lib.ListN.{drop, get_or}
use borrow.Author.Tests.{leb-true}
use Rattle.bits.specs.Bits.{Stream, bit_at, num}
use Rattle.bits.specs.Read.{zeros, Tail, bad_tail, number, pick_tail, tail_at, read_tail, Symbol, bad_symbol, run, value, as_run, as_value, by_head, read_symbol, DcCode, bad_dc, zero_step, step, as_step, by_first, read_dc}
use Rattle.bitreader.specs.scan.Six.{no_six_zeros}
use Rattle.bitreader.proofs.scan.Bad.{no_bad_symbol, no_bad_dc}

abbrev TailTo : ℕ → ℕ → Tail → Type 0
TailTo a b bad_tail = Unit
TailTo a b (number n q) = (a ≤ q) × (q ≤ b)

abbrev pub SymbolTo : Type 0 → ℕ → ℕ → Symbol → Type 0
SymbolTo B a b bad_symbol = B
SymbolTo B a b (run n q) = (a ≤ q) × (q ≤ b)
SymbolTo B a b (value c q) = (a ≤ q) × (q ≤ b)

abbrev pub DcTo : Type 0 → ℕ → ℕ → DcCode → Type 0
DcTo B a b bad_dc = B
DcTo B a b (zero_step q) = (a ≤ q) × (q ≤ b)
DcTo B a b (step c q) = (a ≤ q) × (q ≤ b)

tail_to : (s : Stream) (p : ℕ) → TailTo p (p + 110) (read_tail s p)
unfolding read_tail tail_at
tail_to s p = go (zeros 55 s p) (leb (zeros 55 s p) 54) refl
  where
    go : (z : ℕ) (b : Bool) → leb z 54 ≡ b → TailTo p (p + 110) (pick_tail b (number (num (suc (suc z)) 0 s (p + z)) (p + z + suc (suc z))) bad_tail)
    go z true e = (omega arith, omega (arith, leb-true z 54 e))
    go z false e = tt

value_to : (p : ℕ) (t : Tail) → TailTo (suc p) (suc p + 110) t → SymbolTo Unit p (p + 112) (as_value t)
value_to p bad_tail h = tt
value_to p (number n q) h = (omega arith, omega arith)

run_to : (p : ℕ) (t : Tail) → TailTo (suc (suc p)) (suc (suc p) + 110) t → SymbolTo Unit p (p + 112) (as_run t)
run_to p bad_tail h = tt
run_to p (number n q) h = (omega arith, omega arith)

step_to : (p : ℕ) (t : Tail) → TailTo (suc p) (suc p + 110) t → DcTo Unit p (p + 112) (as_step t)
step_to p bad_tail h = tt
step_to p (number n q) h = (omega arith, omega arith)

pub symbol_to : (s : Stream) (p : ℕ) → SymbolTo Unit p (p + 112) (read_symbol s p)
unfolding read_symbol
symbol_to s p = go (s p) (s (suc p))
  where
    go : (b d : Bool) → SymbolTo Unit p (p + 112) (by_head s p b d)
    go false d = value_to p (read_tail s (suc p)) (tail_to s (suc p))
    go true false = run_to p (read_tail s (suc (suc p))) (tail_to s (suc (suc p)))
    go true true = (omega arith, omega arith)

pub code_to : (s : Stream) (p : ℕ) → DcTo Unit p (p + 112) (read_dc s p)
unfolding read_dc
code_to s p = go (s p)
  where
    go : (b : Bool) → DcTo Unit p (p + 112) (by_first s p b)
    go true = (omega arith, omega arith)
    go false = step_to p (read_tail s (suc p)) (tail_to s (suc p))

-- where no six zero bytes stand in a row, no code is bad
module _ (l : List ℕ) (bytes : (j : ℕ) → get_or l j 0 < 256) (from : ℕ) (clean : no_six_zeros (drop from l) ≡ true) where
  pub no_symbol : (p : ℕ) → 8 * from ≤ p → SymbolTo ⊥ p (p + 112) (read_symbol (bit_at l) p)
  no_symbol p h = go (read_symbol (bit_at l) p) refl (symbol_to (bit_at l) p)
    where
      go : (x : Symbol) → read_symbol (bit_at l) p ≡ x → SymbolTo Unit p (p + 112) x → SymbolTo ⊥ p (p + 112) x
      go bad_symbol e g = no_bad_symbol l bytes from clean p h e
      go (run n q) e g = g
      go (value c q) e g = g

  pub no_dc : (p : ℕ) → 8 * from ≤ p → DcTo ⊥ p (p + 112) (read_dc (bit_at l) p)
  no_dc p h = go (read_dc (bit_at l) p) refl (code_to (bit_at l) p)
    where
      go : (x : DcCode) → read_dc (bit_at l) p ≡ x → DcTo Unit p (p + 112) x → DcTo ⊥ p (p + 112) x
      go bad_dc e g = no_bad_dc l bytes from clean p h e
      go (zero_step q) e g = g
      go (step c q) e g = g
