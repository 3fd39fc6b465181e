-- No bad code in a plane: none in its first block, and none after it.
use Rattle.std.proofs.Common.{◌≡◌, ℕ, suc, Bool, true, false, ltb, List, ℤ, sym, refl, ap, ◌∙◌, arith}
use Rattle.bits.specs.Bits.{Stream, bit_at}
use Rattle.bits.specs.Read.{DcCode, bad_dc, zero_step, step, read_dc}
use Rattle.calls.specs.ReadPlane.{Places, bad_places, places, read_places, BlockRead, Blocks, bad_blocks, blocks, by_places, read_blocks, DcSteps, bad_steps, dc_steps, by_dc_code, read_steps, PlaneRead, bad_plane, plane_read}
use Rattle.blockread.specs.On.{on_streams, read_on, good_plane, block_first, block_of, NextBlock}
use Rattle.acplaces.specs.Places.{good_places}
use Rattle.blockread.specs.declared.Stand.{Stand}
use Rattle.blockread.specs.declared.BlockGot.{BlockGot}
use Rattle.acread.specs.through.Codes.{good_steps}

never : false ≡ true → ⊥
never e = let z : ◌≡◌ {A = ℕ} 0 1 = cc in omega arith

abbrev good_blocks : Blocks → Bool
good_blocks bad_blocks = false
good_blocks (blocks bs q r) = true

steps_good : (shift : ℕ) (before : ℤ) (x : DcSteps) (y : Blocks) → good_plane (on_streams shift before x y) ≡ true → good_steps x ≡ true
steps_good shift before bad_steps y e = e
steps_good shift before (dc_steps ts q) y e = refl

blocks_good : (shift : ℕ) (before : ℤ) (x : DcSteps) (y : Blocks) → good_plane (on_streams shift before x y) ≡ true → good_blocks y ≡ true
blocks_good shift before bad_steps y e = absurd (never e)
blocks_good shift before (dc_steps ts q) bad_blocks e = e
blocks_good shift before (dc_steps ts q) (blocks bs qa r) e = refl

both_good : (shift : ℕ) (before : ℤ) (x : DcSteps) (y : Blocks) → good_steps x ≡ true → good_blocks y ≡ true → good_plane (on_streams shift before x y) ≡ true
both_good shift before bad_steps y e f = e
both_good shift before (dc_steps ts q) bad_blocks e f = f
both_good shift before (dc_steps ts q) (blocks bs qa r) e f = refl

code_good : (n : ℕ) (s : Stream) (p : ℕ) → good_steps (read_steps (suc n) s p) ≡ true → good_steps (read_steps 1 s p) ≡ true
unfolding read_steps
code_good n s p = go (read_dc s p)
  where
    go : (c : DcCode) → good_steps (by_dc_code c (λ q. read_steps n s q)) ≡ true → good_steps (by_dc_code c (λ q. read_steps 0 s q)) ≡ true
    go bad_dc e = e
    go (zero_step q) e = refl
    go (step c q) e = refl

by_places_good : (f : Bool) (x : Places) (next : ℕ → ℕ → Blocks) → good_blocks (by_places f x next) ≡ true → good_places x ≡ true
by_places_good f bad_places next e = e
by_places_good f (places cs q r) next e = refl

places_good : (n : ℕ) (s : Stream) (p r : ℕ) → good_blocks (read_blocks (suc n) s p r) ≡ true → good_places (read_places 64 s p r) ≡ true
unfolding read_blocks
places_good n s p r e = by_places_good (ltb r 64) (read_places 64 s p r) (λ q r'. read_blocks n s q r') e

one_good : (s : Stream) (p r : ℕ) → good_places (read_places 64 s p r) ≡ true → good_blocks (read_blocks 1 s p r) ≡ true
unfolding read_blocks
one_good s p r = go (read_places 64 s p r)
  where
    go : (x : Places) → good_places x ≡ true → good_blocks (by_places (ltb r 64) x (λ q r'. read_blocks 0 s q r')) ≡ true
    go bad_places e = e
    go (places cs q r') e = refl

-- the codes of the first block
pub first_steps : (shift n : ℕ) (dc ac : List ℕ) (s : Stand) → good_plane (read_on shift (suc n) dc ac s) ≡ true → good_steps (read_steps 1 (bit_at dc) s.dc.pos) ≡ true
unfolding read_on
first_steps shift n dc ac s e =
    code_good n (bit_at dc) s.dc.pos
    (steps_good shift s.last (read_steps (suc n) (bit_at dc) s.dc.pos) (read_blocks (suc n) (bit_at ac) s.ac s.pending) e)

pub first_places : (shift n : ℕ) (dc ac : List ℕ) (s : Stand) → good_plane (read_on shift (suc n) dc ac s) ≡ true → good_places (read_places 64 (bit_at ac) s.ac s.pending) ≡ true
unfolding read_on
first_places shift n dc ac s e =
    places_good n (bit_at ac) s.ac s.pending
    (blocks_good shift s.last (read_steps (suc n) (bit_at dc) s.dc.pos) (read_blocks (suc n) (bit_at ac) s.ac s.pending) e)

-- a good plane's first block is good
pub good_first : (shift n : ℕ) (dc ac : List ℕ) (s : Stand) → good_plane (read_on shift (suc n) dc ac s) ≡ true → good_plane (read_on shift 1 dc ac s) ≡ true
unfolding read_on
good_first shift n dc ac s e =
    both_good shift s.last (read_steps 1 (bit_at dc) s.dc.pos) (read_blocks 1 (bit_at ac) s.ac s.pending)
    (first_steps shift n dc ac s e) (one_good (bit_at ac) s.ac s.pending (first_places shift n dc ac s e))

first_good : (b : BlockRead) (x : PlaneRead) → good_plane (block_first b x) ≡ good_plane x
first_good b bad_plane = refl
first_good b (plane_read bs qd qa) = refl

-- and so are the blocks after it
pub good_rest : (shift n : ℕ) (dc ac : List ℕ) (s : Stand) (g : BlockGot) → NextBlock shift dc ac s g → good_plane (read_on shift (suc n) dc ac s) ≡ true
    → good_plane (read_on shift n dc ac g.next) ≡ true
good_rest shift n dc ac s g b e = sym (first_good (block_of g) (read_on shift n dc ac g.next)) ∙ sym (ap good_plane (b.first n)) ∙ e
