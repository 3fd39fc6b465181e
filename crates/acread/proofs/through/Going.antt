-- The loops over a plane's blocks: what is still to be read from here ends where the plane ends.
use mathlib.Core.Path.{◌≡◌, sym, ap, ap₂, subst, ◌∙◌}
use mathlib.Core.Bool.{true}
use mathlib.Core.List.{List, [], ◌∷◌}
use Prim.Native.Nat.{ℕ, suc, ◌+◌, ◌*◌, ◌^◌, ◌≤◌, ◌<◌}
use native.Mathlib.Nat.{add-zero}
use native.Mathlib.Omega.{arith}
use lib.ListN.{length, set}
use Rattle.bits.specs.Bits.{bit_at}
use Rattle.bits.specs.Lay.{lay}
use Rattle.bits.proofs.LayLaw.{lay_none, lay_set, lay_lay}
use Rattle.bitreader.specs.Cursor.{At}
use Rattle.bitreader.specs.declared.AcCursor.{AcCursor}
use Rattle.calls.specs.ReadPlane.{read_places, read_blocks}
use Rattle.acread.specs.Block.{bad_ends, ends, ends_of, BlockEnded, block_says}
use Rattle.acread.specs.declared.BlockEnd.{BlockEnd}
use Rattle.std.specs.Prelude.{Option, Some, None}
use Rattle.acread.specs.Block.{flat_byte}
use Rattle.acread.specs.through.Through.{block_ends, good_ends, reports_of}
use Rattle.acread.proofs.through.Blocks.{block_next, report_next, block_bad, none_left, bad_good}

-- the cursor c stands at the first of the `left` blocks still to be read, of n from the bit p on
pub record Going (s : List ℕ) (p n : ℕ) (c : AcCursor) (pending left : ℕ) : Type 0 where
  pub same : block_ends (read_blocks n (bit_at s) p 0) ≡ block_ends (read_blocks left (bit_at s) c.pos pending)
  pub holds : At s c
  pub near : c.pos + 7168 * left ≤ p + 7168 * n
  pub few : pending < 2 ^ 57

pub going_start : (s : List ℕ) (p n : ℕ) (c : AcCursor) → At s c → c.pos ≡ p → Going s p n c 0 n
going_start s p n c a e =
    record {
      same = ap (λ (x : ℕ). block_ends (read_blocks n (bit_at s) x 0)) (sym e);
      holds = a;
      near = omega arith;
      few = omega arith;
    }

pub going_left : {s : List ℕ} {p n : ℕ} {c : AcCursor} {pending left : ℕ} (m : ℕ) → left ≡ m → Going s p n c pending left → Going s p n c pending m
going_left {s} {p} {n} {c} {pending} m e i = subst (λ (x : ℕ). Going s p n c pending x) e i

module _ (s : List ℕ) (p n : ℕ) (c : AcCursor) (pending m : ℕ) (i : Going s p n c pending (suc m)) (o : Option BlockEnd) (b : BlockEnded s c.pos pending o) where
  ends_at : (e : BlockEnd) → o ≡ Some e → ends_of (read_places 64 (bit_at s) c.pos pending) ≡ ends e.c.pos e.pending
  ends_at e f = sym b.answer ∙ ap block_says f

  pub going_next : (e : BlockEnd) → o ≡ Some e → Going s p n e.c e.pending m
  going_next e f =
      let r = b.ready e f in
      record {
        same = i.same ∙ block_next (bit_at s) m c.pos pending e.c.pos e.pending (ends_at e f);
        holds = r.holds;
        near = omega (arith, r.near, i.near);
        few = r.few;
      }

  pub going_bad : o ≡ None → block_ends (read_blocks n (bit_at s) p 0) ≡ bad_ends
  going_bad f = i.same ∙ block_bad (bit_at s) m c.pos pending (sym b.answer ∙ ap block_says f)

  -- one byte stored at j
  pub stored : (e : BlockEnd) → o ≡ Some e → good_ends (block_ends (read_blocks n (bit_at s) p 0)) ≡ true → (l : List ℕ) (j : ℕ) {v : ℕ} → j < length l → v ≡ flat_byte pending
      → lay l j (reports_of (read_blocks (suc m) (bit_at s) c.pos pending)) ≡ lay (set l j v) (j + 1) (reports_of (read_blocks m (bit_at s) e.c.pos e.pending))
  stored e f g l j {v} h w =
      let rest = reports_of (read_blocks m (bit_at s) e.c.pos e.pending) in
      let one : set l j v ≡ lay l j (v ∷ []) =
      ap₂ (λ (x : List ℕ) (y : ℕ). set x y v) (sym (lay_none l j)) (sym (add-zero j)) ∙ lay_set l j [] (omega arith) v (omega arith) in
      let ok : good_ends (block_ends (read_blocks m (bit_at s) e.c.pos e.pending)) ≡ true = ap good_ends (sym (going_next e f).same) ∙ g in
      ap (lay l j) (report_next (bit_at s) m c.pos pending e.c.pos e.pending (ends_at e f) ok) ∙ ap (λ (x : ℕ). lay l j (x ∷ rest)) (sym w)
      ∙ sym (ap (λ (x : List ℕ). lay x (j + 1) rest) one ∙ lay_lay l j (v ∷ []) (omega arith) rest)

  pub not_bad : o ≡ None → good_ends (block_ends (read_blocks n (bit_at s) p 0)) ≡ true → ⊥
  not_bad f g = bad_good (going_bad f) g

pub going_over : (s : List ℕ) (p n : ℕ) (c : AcCursor) (pending left : ℕ) → left ≡ 0 → Going s p n c pending left → block_ends (read_blocks n (bit_at s) p 0) ≡ ends c.pos pending
going_over s p n c pending left e i = i.same ∙ ap (λ (x : ℕ). block_ends (read_blocks x (bit_at s) c.pos pending)) e ∙ (none_left (bit_at s) c.pos pending).0

-- all bytes are stored
pub stored_all : (s : List ℕ) (q r left : ℕ) (l : List ℕ) (j : ℕ) → left ≡ 0 → lay l j (reports_of (read_blocks left (bit_at s) q r)) ≡ l
stored_all s q r left l j e =
    ap (λ (x : ℕ). lay l j (reports_of (read_blocks x (bit_at s) q r))) e ∙ ap (lay l j) (none_left (bit_at s) q r).1 ∙ lay_none l j
