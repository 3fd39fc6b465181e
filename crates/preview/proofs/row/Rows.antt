-- Two rows of blocks, one after the other.
use mathlib.Core.Path.{◌≡◌, refl, sym, ap, ap₂, subst, ◌∙◌}
use mathlib.Core.Bool.{true}
use mathlib.Core.List.{List, [], ◌++◌, map, append-nil}
use Prim.Native.Nat.{ℕ, ◌+◌, ◌*◌}
use native.Mathlib.Omega.{arith}
use lib.IntN.{ℤ, pos}
use lib.ListN.{take, drop, replicate}
use lib.Seq.{take_at, drop_at}
use Rattle.ask.specs.Ask.{accepted}
use Rattle.bits.specs.Bits.{bit_at, bytes_for}
use Rattle.bits.specs.Lay.{lay}
use Rattle.calls.specs.Arguments.{eight}
use Rattle.calls.specs.ReadPlane.{DcSteps, read_steps, predicted}
use Rattle.calls.specs.Grid.{level}
use Rattle.calls.specs.Previews.{preview_byte, preview_bytes}
use Rattle.blockread.specs.dc.Steps.{byte_of, step_list, bytes_from}
use Rattle.preview.specs.row.Row.{RowDone, Stored}
use Rattle.preview.specs.declared.row.RowEnd.{RowEnd}
use Rattle.blockread.proofs.dc.Steps.{none_bytes}
use Rattle.acread.specs.through.Codes.{good_steps, dc_bit, in_bytes}
use Rattle.acread.proofs.through.Codes.{good_by, first_good, none_bit}

-- the bytes in the two forms
byte_is : (place : ℕ) → preview_byte place ≡ byte_of (level eight place)
unfolding preview_byte
byte_is place = refl

bytes_are : (shift place n : ℕ) (x : DcSteps) → preview_bytes shift place n (step_list x) ≡ bytes_from shift (level eight place) n x (pos 0)
unfolding preview_bytes
bytes_are shift place n x = ap (λ (f : ℤ → ℕ). map f (predicted shift (pos 0) (step_list x) (replicate n (pos 0)))) (byte_is place)

module _ (shift place w : ℕ) (upper lower dc : List ℕ) (at : ℕ) (good : good_steps (read_steps (2 * w) (bit_at dc) (8 * at)) ≡ true) {p : ℕ} (h : p ≡ 8 * at) where
  twice : 2 * w ≡ w + w
  twice = omega arith

  good_both : good_steps (read_steps (w + w) (bit_at dc) p) ≡ true
  good_both = ap₂ (λ (n m : ℕ). good_steps (read_steps n (bit_at dc) m)) (sym twice) h ∙ good

  pub good_upper : good_steps (read_steps w (bit_at dc) p) ≡ true
  good_upper = first_good w w (bit_at dc) p good_both

  pub good_below : {r : RowEnd} {u : List ℕ} → RowDone dc shift (level eight place) w p (pos 0) upper u r → good_steps (read_steps w (bit_at dc) r.c.pos) ≡ true
  good_below {r} a = good_by (read_steps (w + w) (bit_at dc) p) (read_steps w (bit_at dc) r.c.pos) (a.ends w good_both) good_both

  module _ {u v : List ℕ} {r t : RowEnd} (a : RowDone dc shift (level eight place) w p (pos 0) upper u r)
      (b : RowDone dc shift (level eight place) w r.c.pos r.last lower v t) where
    none : w ≡ w + 0
    none = omega arith

    good_lower : good_steps (read_steps (w + 0) (bit_at dc) r.c.pos) ≡ true
    good_lower =
        ap (λ (n : ℕ). good_steps (read_steps n (bit_at dc) r.c.pos)) (sym none) ∙ good_below a

    joined : preview_bytes shift place (2 * w) (step_list (read_steps (2 * w) (bit_at dc) (8 * at))) ≡ a.bytes ++ (b.bytes ++ [])
    joined =
        bytes_are shift place (2 * w) (read_steps (2 * w) (bit_at dc) (8 * at))
        ∙ ap₂ (λ (n m : ℕ). bytes_from shift (level eight place) n (read_steps n (bit_at dc) m) (pos 0)) twice (sym h)
        ∙ a.rest w good_both
        ∙ ap (λ (l : List ℕ). a.bytes ++ l)
        (ap (λ (n : ℕ). bytes_from shift (level eight place) n (read_steps n (bit_at dc) r.c.pos) r.last) none
        ∙ b.rest 0 good_lower ∙ ap (λ (l : List ℕ). b.bytes ++ l) (none_bytes shift (level eight place) (bit_at dc) t.c.pos t.last))

    both_end : dc_bit (read_steps (2 * w) (bit_at dc) (8 * at)) ≡ accepted t.c.pos
    both_end =
        ap₂ (λ (n m : ℕ). dc_bit (read_steps n (bit_at dc) m)) twice (sym h) ∙ a.ends w good_both
        ∙ ap (λ (n : ℕ). dc_bit (read_steps n (bit_at dc) r.c.pos)) none ∙ b.ends 0 good_lower ∙ none_bit (bit_at dc) t.c.pos

    rows_stored : {q : ℕ} → q ≡ bytes_for t.c.pos → Stored shift place w upper u lower v (read_steps (2 * w) (bit_at dc) (8 * at)) q
    rows_stored e =
        record {
          end = ap accepted e ∙ sym (ap in_bytes both_end);
          above = a.stored ∙ ap (lay upper 0) (sym (ap (take w) joined ∙ take_at a.bytes (b.bytes ++ []) w a.count));
          below = b.stored ∙ ap (lay lower 0) (sym (ap (drop w) joined ∙ drop_at a.bytes (b.bytes ++ []) w a.count ∙ append-nil b.bytes));
        }

  -- the second row begun with a prior that is the first row's last DC
  pub rows_stored_from : {u v : List ℕ} {r t : RowEnd} → RowDone dc shift (level eight place) w p (pos 0) upper u r → {x : ℤ} → x ≡ r.last
      → RowDone dc shift (level eight place) w r.c.pos x lower v t → {q : ℕ} → q ≡ bytes_for t.c.pos → Stored shift place w upper u lower v (read_steps (2 * w) (bit_at dc) (8 * at)) q
  rows_stored_from {v = v} {r = r} {t = t} a {x} f b e =
      rows_stored a (subst (λ (z : ℤ). RowDone dc shift (level eight place) w r.c.pos z lower v t) f b) e
