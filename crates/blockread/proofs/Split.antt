-- A plane's first block, and the blocks after it.
use Rattle.std.proofs.Common.{◌≡◌, ℕ, suc, ◌+◌, ◌*◌, ◌≤◌, Bool, true, false, not, ltb, leb, List, [], set, ℤ, pos, sym, refl, ap, ◌∙◌, subst, ap₂, arith, length-set, to_z-of_z, w16, SFits, ltb-false, ltb-true, le-leb}
use borrow.Author.Tests.{lt-leb}
use Rattle.scalar.specs.Scalar.{add_of}
use Rattle.scalar.proofs.Laws.{back}
use Rattle.bits.specs.Bits.{Stream, bit_at, bytes_for}
use Rattle.bitreader.specs.Cursor.{DcGot}
use Rattle.bitreader.specs.declared.Got.{Got}
use Rattle.bitreader.proofs.scan.Codes.{symbol_to}
use Rattle.quant.specs.Quantise.{coefficient, scan_of}
use Rattle.calls.specs.Streams.{dc_of, with_dc}
use Rattle.calls.specs.ReadPlane.{places, read_places, BlockRead, Blocks, bad_blocks, blocks, block_then, read_blocks, DcStep, DcSteps, bad_steps, dc_steps, step_then, read_steps, settle, predicted, plane_read, both_streams, read_plane}
use Rattle.acplaces.specs.Places.{Placed}
use Rattle.acplaces.specs.declared.AcGot.{AcGot}
use Rattle.blockread.specs.On.{on_streams, read_on, block_first, NextBlock}
use Rattle.blockread.specs.declared.Stand.{Stand}
use Rattle.blockread.proofs.dc.Scan.{scan_dc, scan_with}
use Rattle.acread.specs.through.Codes.{step_of}
use Rattle.acread.proofs.through.Codes.{steps_next}
use Rattle.acread.proofs.through.Ends.{BlocksTo, blocks_to}

-- ---- one block more

split : (shift : ℕ) (before : ℤ) (t : DcStep) (x : DcSteps) (b : BlockRead) (y : Blocks)
    → on_streams shift before (step_then t x) (block_then b y)
    ≡ block_first (record { symbol_read = b.symbol_read; coeffs = with_dc (add_of (settle shift t (dc_of b.coeffs)) before) b.coeffs })
    (on_streams shift (add_of (settle shift t (dc_of b.coeffs)) before) x y)
unfolding predicted
split shift before t bad_steps b y = refl
split shift before t (dc_steps ts qd) b bad_blocks = refl
split shift before t (dc_steps ts qd) b (blocks bs qa r) = refl

blocks_next : (s : Stream) (n p r : ℕ) {cs : List ℤ} {q r' : ℕ} → read_places 64 s p r ≡ places cs q r'
    → read_blocks (suc n) s p r ≡ block_then (record { symbol_read = ltb r 64; coeffs = cs }) (read_blocks n s q r')
unfolding read_blocks
blocks_next s n p r e = rw e refl

not_flat : (r : ℕ) → not (leb 64 r) ≡ ltb r 64
not_flat r = go (ltb r 64) refl
  where
    go : (b : Bool) → ltb r 64 ≡ b → not (leb 64 r) ≡ ltb r 64
    go true e = rw (lt-leb 64 r (ltb-true r 64 e)) (sym e)
    go false e = rw (le-leb 64 r (ltb-false r 64 e)) (sym e)

pub fits_back : {z : ℤ} → SFits w16 z → SFits w16 (back w16 z)
fits_back h = subst (SFits w16) (sym (to_z-of_z h)) h

module _ (shift : ℕ) (dc ac : List ℕ) (s : Stand) (a : AcGot) (nat : List ℤ) (h : Got) (p : Placed ac s.ac s.pending a nat) (b : DcGot dc s.dc h) where
  first_block : {d : ℤ} → d ≡ add_of (settle shift (step_of h.run h.num) (coefficient nat 0)) s.last → (o n : ℕ)
      → read_on shift (suc n) dc ac s
      ≡ block_first (record { symbol_read = not (leb 64 s.pending); coeffs = scan_of (set nat 0 d) })
      (read_on shift n dc ac (record { dc = h.c; ac = a.at; pending = a.pending; before = o; last = d }))
  unfolding read_on
  first_block {d} e o n =
      let x = read_steps n (bit_at dc) h.c.pos in
      let y = read_blocks n (bit_at ac) a.at a.pending in
      let v : add_of (settle shift (step_of h.run h.num) (dc_of (scan_of nat))) s.last ≡ d =
      ap (λ (z : ℤ). add_of (settle shift (step_of h.run h.num) z) s.last) (scan_dc nat) ∙ sym e in
      ap₂ (on_streams shift s.last)
      (steps_next (bit_at dc) n s.dc.pos h.num h.run h.c.pos b.answer)
      (blocks_next (bit_at ac) n s.ac s.pending p.answer)
      ∙ split shift s.last (step_of h.run h.num) x (record { symbol_read = ltb s.pending 64; coeffs = scan_of nat }) y
      ∙ ap (λ (z : ℤ). block_first (record { symbol_read = ltb s.pending 64; coeffs = with_dc z (scan_of nat) }) (on_streams shift z x y)) v
      ∙ ap₂ (λ (f : Bool) (cs : List ℤ). block_first (record { symbol_read = f; coeffs = cs }) (on_streams shift d x y)) (sym (not_flat s.pending)) (scan_with nat d p.count)

  -- the block and where it leads
  pub block_next : {d : ℤ} → SFits w16 d → d ≡ add_of (settle shift (step_of h.run h.num) (coefficient nat 0)) s.last → {f : Bool} → f ≡ leb 64 s.pending → {o : ℕ}
      → NextBlock shift dc ac s (record { next = record { dc = h.c; ac = a.at; pending = a.pending; before = o; last = d }; flat = f; nat = set nat 0 d })
  block_next {d} w e l {o} =
      record {
        first = λ n. first_block e o n
            ∙ ap (λ (u : Bool). block_first (record { symbol_read = not u; coeffs = scan_of (set nat 0 d) })
            (read_on shift n dc ac (record { dc = h.c; ac = a.at; pending = a.pending; before = o; last = d }))) (sym l);
        ready = record { dc_holds = b.next.ready; few = p.few; fits = w };
        dc_near = b.next.near;
        ac_near = p.near;
        places = length-set nat 0 d ∙ p.count;
      }

-- the places end at their start or after it
pub places_up : (l : List ℕ) (p r : ℕ) {cs : List ℤ} {q r' : ℕ} → read_places 64 (bit_at l) p r ≡ places cs q r' → p ≤ q
unfolding read_blocks
places_up l p r {cs} {q} {r'} e =
    (subst (BlocksTo Unit p (p + 7168 * 1)) (blocks_next (bit_at l) 0 p r e) (blocks_to Unit (bit_at l) 0 (λ i h. symbol_to (bit_at l) i) 1 p r (omega arith))).0

-- ---- a plane from its start to its end

from_zero : (shift : ℕ) (x : DcSteps) (y : Blocks) → both_streams shift x y ≡ on_streams shift (pos 0) x y
from_zero shift bad_steps y = refl
from_zero shift (dc_steps ts qd) bad_blocks = refl
from_zero shift (dc_steps ts qd) (blocks bs qa r) = refl

pub read_plane_lem : (shift n : ℕ) (dc ac : List ℕ) (d a : ℕ) (s : Stand) → s.dc.pos ≡ 8 * d → s.ac ≡ 8 * a → s.pending ≡ 0 → s.last ≡ pos 0
    → read_plane shift n dc ac d a ≡ read_on shift n dc ac s
unfolding read_plane read_on
read_plane_lem shift n dc ac d a s e f g h =
    from_zero shift (read_steps n (bit_at dc) (8 * d)) (read_blocks n (bit_at ac) (8 * a) 0) ∙ rw (e, f, g, h) refl

pub read_none_lem : (shift : ℕ) (dc ac : List ℕ) (s : Stand) → read_on shift 0 dc ac s ≡ plane_read [] (bytes_for s.dc.pos) (bytes_for s.ac)
unfolding read_on read_steps read_blocks predicted
read_none_lem shift dc ac s = refl
