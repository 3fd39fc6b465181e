-- The loops over a plane's DC codes: what is still to be read from here ends where the plane ends.
use mathlib.Core.Path.{◌≡◌, sym, ap, subst, ◌∙◌}
use mathlib.Core.List.{List}
use Prim.Native.Nat.{ℕ, suc, ◌+◌, ◌*◌, ◌≤◌}
use native.Mathlib.Omega.{arith}
use Rattle.ask.specs.Ask.{refused, accepted}
use Rattle.ask.specs.Numbers.{no_code}
use Rattle.bits.specs.Bits.{bit_at}
use Rattle.bits.specs.Read.{bad_dc, read_dc}
use Rattle.bitreader.specs.Cursor.{At, DcGot}
use Rattle.bitreader.specs.declared.AcCursor.{AcCursor}
use Rattle.bitreader.specs.declared.Got.{Got}
use Rattle.calls.specs.ReadPlane.{read_steps}
use Rattle.acread.specs.through.Codes.{dc_bit}
use Rattle.acread.proofs.through.Codes.{bit_next, steps_bad, none_bit}

-- the cursor c stands at the first of the `left` codes still to be read, of n from the bit p on
pub record Going (s : List ℕ) (p n : ℕ) (c : AcCursor) (left : ℕ) : Type 0 where
  pub same : dc_bit (read_steps n (bit_at s) p) ≡ dc_bit (read_steps left (bit_at s) c.pos)
  pub holds : At s c
  pub near : c.pos + 112 * left ≤ p + 112 * n

pub going_start : (s : List ℕ) (p n : ℕ) (c : AcCursor) → At s c → c.pos ≡ p → Going s p n c n
going_start s p n c a e = record { same = ap (λ (x : ℕ). dc_bit (read_steps n (bit_at s) x)) (sym e); holds = a; near = omega arith }

pub going_left : {s : List ℕ} {p n : ℕ} {c : AcCursor} {left : ℕ} (m : ℕ) → left ≡ m → Going s p n c left → Going s p n c m
going_left {s} {p} {n} {c} m e i = subst (λ (x : ℕ). Going s p n c x) e i

module _ (s : List ℕ) (p n : ℕ) (c : AcCursor) (m : ℕ) (i : Going s p n c (suc m)) where
  pub going_next : (g : Got) → DcGot s c g → Going s p n g.c m
  going_next g b =
      record {
        same = i.same ∙ bit_next (bit_at s) m c.pos g.num g.run g.c.pos b.answer;
        holds = b.next.ready;
        near = omega (arith, b.next.near, i.near);
      }

  pub going_bad : bad_dc ≡ read_dc (bit_at s) c.pos → dc_bit (read_steps n (bit_at s) p) ≡ refused no_code
  going_bad b = i.same ∙ ap dc_bit (steps_bad (bit_at s) m c.pos b)

pub going_over : (s : List ℕ) (p n : ℕ) (c : AcCursor) (left : ℕ) → left ≡ 0 → Going s p n c left → dc_bit (read_steps n (bit_at s) p) ≡ accepted c.pos
going_over s p n c left e i = i.same ∙ ap (λ (x : ℕ). dc_bit (read_steps x (bit_at s) c.pos)) e ∙ none_bit (bit_at s) c.pos
