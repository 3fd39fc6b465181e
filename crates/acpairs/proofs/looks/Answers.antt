-- Each entry of the constant is what its ten bits hold: antt computes all 1,024.
use mathlib.Core.Path.{◌≡◌, refl, ap, ◌∙◌}
use mathlib.Core.List.{List}
use Prim.Native.Nat.{ℕ}
use lib.ListN.{get_or}
use Rattle.scalar.specs.Tab.{tab_from, tab}
use Rattle.scalar.proofs.Fill.{get_d_tab}
use Rattle.bits.specs.Bits.{num}
use Rattle.bits.specs.Read.{zeros, tail_at, read_tail, read_symbol}
use Rattle.acpairs.specs.Pairs.{look_of, ten_bits, Looks}
use Rattle.acpairs.proofs.looks.Goals as goal

of_tab : (t : List ℕ) → t ≡ tab 1024 look_of → Looks t
of_tab t e k h = ap (λ (l : List ℕ). get_or l k 0) e ∙ get_d_tab 1024 look_of k 0 h

pub returns : goal.returns
unfolding look_of ten_bits read_symbol read_tail tail_at zeros num tab_from
returns c = of_tab _ refl
