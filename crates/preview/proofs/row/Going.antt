-- The loop over a row of blocks: what is still to be read from here gives what the whole gives.
use mathlib.Core.Path.{◌≡◌, refl, sym, ap, ◌∙◌}
use mathlib.Core.Bool.{true}
use mathlib.Core.List.{List, [], ◌∷◌, ◌++◌, append_assoc}
use Prim.Native.Nat.{ℕ, suc, ◌+◌, ◌-◌, ◌*◌, ◌≤◌, ◌<◌}
use native.Mathlib.Omega.{arith}
use lib.IntN.{ℤ, pos}
use lib.ListN.{length, take, drop, set, length-append}
use mir.Syntax.{w16}
use mir.Val.{SFits}
use Rattle.scalar.specs.Scalar.{add_of}
use Rattle.std.specs.Prelude.{Result, IsOk}
use Rattle.bits.specs.Bits.{bit_at}
use Rattle.bits.specs.Lay.{lay}
use Rattle.bits.proofs.LayLaw.{lay_none, lay_next}
use Rattle.bitreader.specs.Cursor.{At, DcGot, NextDc}
use Rattle.bitreader.specs.declared.AcCursor.{AcCursor}
use Rattle.bitreader.specs.declared.Got.{Got}
use Rattle.bitreader.specs.declared.BadCode.{BadCode}
use Rattle.calls.specs.ReadPlane.{read_steps, settle}
use Rattle.blockread.specs.dc.Steps.{byte_of, bytes_from}
use Rattle.preview.specs.row.Row.{RowDone}
use Rattle.preview.specs.declared.row.RowEnd.{RowEnd}
use Rattle.preview.proofs.report.Asked.{front_laid}
use Rattle.blockread.proofs.dc.Steps.{bytes_next}
use Rattle.acread.specs.through.Codes.{step_of, good_steps, dc_bit}
use Rattle.acread.proofs.through.Codes.{good_by, bit_next, code_here}

-- k of the n blocks of a row are stored
pub record Row (s : List ℕ) (shift : ℕ) (level : ℤ) (n p : ℕ) (before : ℤ) (out : List ℕ) (c : AcCursor) (last : ℤ) (k : ℕ) (now : List ℕ) : Type 0 where
  pub bytes : List ℕ
  pub count : length bytes ≡ k
  pub stored : now ≡ lay out 0 bytes
  pub holds : At s c
  pub fits : SFits w16 last
  pub near : c.pos ≤ p + 112 * k
  pub rest : (m : ℕ) → good_steps (read_steps (n + m) (bit_at s) p) ≡ true
      → bytes_from shift level (n + m) (read_steps (n + m) (bit_at s) p) before ≡ bytes ++ bytes_from shift level (n - k + m) (read_steps (n - k + m) (bit_at s) c.pos) last
  pub ends : (m : ℕ) → good_steps (read_steps (n + m) (bit_at s) p) ≡ true → dc_bit (read_steps (n + m) (bit_at s) p) ≡ dc_bit (read_steps (n - k + m) (bit_at s) c.pos)

module _ (s : List ℕ) (shift : ℕ) (level : ℤ) (n : ℕ) (before : ℤ) (out : List ℕ) (room : n ≤ length out) where
  pub row_start : (c : AcCursor) → At s c → SFits w16 before → Row s shift level n c.pos before out c before 0 out
  row_start c a w =
      let z : n ≡ n - 0 = omega arith in
      record {
        bytes = [];
        count = refl;
        stored = sym (lay_none out 0);
        holds = a;
        fits = w;
        near = omega arith;
        rest = λ m g. ap (λ (x : ℕ). bytes_from shift level (x + m) (read_steps (x + m) (bit_at s) c.pos) before) z;
        ends = λ m g. ap (λ (x : ℕ). dc_bit (read_steps (x + m) (bit_at s) c.pos)) z;
      }

  pub row_next : (p : ℕ) (c : AcCursor) (last : ℤ) (k : ℕ) (now : List ℕ) → Row s shift level n p before out c last k now → k < n → (g : Got) → DcGot s c g
      → {d : ℤ} → SFits w16 d → d ≡ add_of (settle shift (step_of g.run g.num) (pos 0)) last → {v : ℕ} → v ≡ byte_of level d → Row s shift level n p before out g.c d (k + 1) (set now k v)
  row_next p c last k now i h g b {d} w e {v} f =
      let sucs : (m : ℕ) → n - k + m ≡ suc (n - (k + 1) + m) = λ m. omega arith in
      let ok : (m : ℕ) → good_steps (read_steps (n + m) (bit_at s) p) ≡ true → good_steps (read_steps (suc (n - (k + 1) + m)) (bit_at s) c.pos) ≡ true =
      λ m q. ap (λ (x : ℕ). good_steps (read_steps x (bit_at s) c.pos)) (sym (sucs m)) ∙ good_by (read_steps (n + m) (bit_at s) p) (read_steps (n - k + m) (bit_at s) c.pos) (i.ends m q) q in
      record {
        bytes = i.bytes ++ (v ∷ []);
        count = omega (arith, length-append i.bytes (v ∷ []), i.count);
        stored = lay_next out 0 i.bytes v k (omega (arith, i.count)) (omega (arith, i.count)) i.stored;
        holds = b.next.ready;
        fits = w;
        near = omega (arith, b.next.near, i.near);
        rest = λ m q.
            i.rest m q ∙ ap (λ (x : ℕ). i.bytes ++ bytes_from shift level x (read_steps x (bit_at s) c.pos) last) (sucs m)
            ∙ ap (λ (l : List ℕ). i.bytes ++ l) (bytes_next shift level (bit_at s) (n - (k + 1) + m) c.pos g.num g.run g.c.pos b.answer (ok m q) last e)
            ∙ ap (λ (x : ℕ). i.bytes ++ (x ∷ bytes_from shift level (n - (k + 1) + m) (read_steps (n - (k + 1) + m) (bit_at s) g.c.pos) d)) (sym f)
            ∙ sym (append_assoc i.bytes (v ∷ []) (bytes_from shift level (n - (k + 1) + m) (read_steps (n - (k + 1) + m) (bit_at s) g.c.pos) d));
        ends = λ m q.
            i.ends m q ∙ ap (λ (x : ℕ). dc_bit (read_steps x (bit_at s) c.pos)) (sucs m)
            ∙ bit_next (bit_at s) (n - (k + 1) + m) c.pos g.num g.run g.c.pos b.answer;
      }

  -- a good row has a code here
  pub row_code : (p : ℕ) (c : AcCursor) (last : ℤ) (k : ℕ) (now : List ℕ) → Row s shift level n p before out c last k now → k < n → good_steps (read_steps n (bit_at s) p) ≡ true
      → (o : Result Got BadCode) → NextDc s c o → IsOk o
  row_code p c last k now i h g o b =
      let e : n + 0 ≡ n = omega arith in
      let f : n - k + 0 ≡ suc (n - (k + 1)) = omega arith in
      let q : good_steps (read_steps (n + 0) (bit_at s) p) ≡ true = ap (λ (x : ℕ). good_steps (read_steps x (bit_at s) p)) e ∙ g in
      code_here s c (n - (k + 1))
      (ap (λ (x : ℕ). good_steps (read_steps x (bit_at s) c.pos)) (sym f) ∙ good_by (read_steps (n + 0) (bit_at s) p) (read_steps (n - k + 0) (bit_at s) c.pos) (i.ends 0 q) q) o b

  pub row_done : (p : ℕ) (c : AcCursor) (last : ℤ) (k : ℕ) (now : List ℕ) → Row s shift level n p before out c last k now → n ≤ k → k ≤ n
      → RowDone s shift level n p before out now (record { c = c; last = last })
  row_done p c last k now i h l =
      let z : (m : ℕ) → n - k + m ≡ m = λ m. omega arith in
      record {
        bytes = i.bytes;
        count = omega (arith, i.count);
        stored = i.stored;
        holds = i.holds;
        fits = i.fits;
        near = omega (arith, i.near);
        rest = λ m q. i.rest m q ∙ ap (λ (x : ℕ). i.bytes ++ bytes_from shift level x (read_steps x (bit_at s) c.pos) last) (z m);
        ends = λ m q. i.ends m q ∙ ap (λ (x : ℕ). dc_bit (read_steps x (bit_at s) c.pos)) (z m);
      }

-- a row stored in the front part of a buffer
pub row_whole : (s : List ℕ) (shift : ℕ) (level : ℤ) (n : ℕ) (before : ℤ) (out : List ℕ) → n ≤ length out → length (take n out) ≡ n → {now : List ℕ} → length now ≡ n → {p : ℕ} {e : RowEnd}
    → RowDone s shift level n p before (take n out) now e → RowDone s shift level n p before out (now ++ drop n out) e
row_whole s shift level n before out room t {now} f {p} {e} d =
    record {
      bytes = d.bytes;
      count = d.count;
      stored = front_laid out n d.bytes now room d.stored (f ∙ sym t);
      holds = d.holds;
      fits = d.fits;
      near = d.near;
      rest = d.rest;
      ends = d.ends;
    }

pub row_at : {s : List ℕ} {shift n p : ℕ} {x y u v : ℤ} {out now : List ℕ} {e : RowEnd} → u ≡ x → v ≡ y → RowDone s shift x n p y out now e → RowDone s shift u n p v out now e
row_at f g d = rw (f, g) d
