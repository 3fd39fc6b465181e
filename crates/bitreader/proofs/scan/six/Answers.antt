-- `bitreader::scan::six` meets its contract. Assumes nothing.
use mathlib.Core.Path.{sym, ap, ◌∙◌}
use borrow.Author.Tests.{eq-eqb, ne_eqb}
use Prim.Native.Nat.{ℕ}
use lib.Bits.{bit_or}
use Rattle.bits.specs.Bits.{bit}
use Rattle.bitreader.proofs.scan.Rows.{six_test}
use Rattle.bitreader.proofs.scan.six.Goals as goal

abbrev or6 : ℕ → ℕ → ℕ → ℕ → ℕ → ℕ → ℕ
or6 a b c d e f = bit_or (bit_or (bit_or (bit_or (bit_or a b) c) d) e) f

pub returns-then-a-b-eq0 : goal.returns-then-a-b-eq0
returns-then-a-b-eq0 c = let a = c.before.args in sym (ap bit (sym (six_test a.a a.b a.c a.d a.e a.f) ∙ eq-eqb (or6 a.a a.b a.c a.d a.e a.f) 0 c.if-a-b-eq0.true))

pub returns-else-a-b-eq0 : goal.returns-else-a-b-eq0
returns-else-a-b-eq0 c = let a = c.before.args in sym (ap bit (sym (six_test a.a a.b a.c a.d a.e a.f) ∙ ne_eqb (or6 a.a a.b a.c a.d a.e a.f) 0 c.if-a-b-eq0.false))
