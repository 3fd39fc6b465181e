-- Planes are read without a bad code where each of the two streams is.
use mathlib.Core.Path.{◌≡◌, refl, sym, ap, ◌∙◌}
use mathlib.Core.Bool.{Bool, true, false, ◌&&◌}
use mathlib.Core.List.{List, [], ◌∷◌}
use Prim.Native.Nat.{ℕ, zero, suc, ◌*◌}
use lib.ListN.{take}
use Rattle.bits.specs.Bits.{bit_at, bytes_for}
use Rattle.calls.specs.Arguments.{Plane, PerStream, Buffers}
use Rattle.calls.specs.ReadPlane.{BlockRead, Blocks, bad_blocks, blocks, read_blocks, DcSteps, bad_steps, dc_steps, read_steps, both_streams, read_plane}
use Rattle.calls.specs.Grid.{blocks_of}
use Rattle.slice.specs.Calls.{PlanesRead, bad_planes, planes_read, plane_then, by_plane, read_planes}
use Rattle.acread.specs.through.Through.{block_ends, good_ends, ac_end}
use Rattle.blockread.specs.On.{good_plane}
use Rattle.judge.specs.Good.{good_planes, strides, dc_plane, ac_plane, goes_on, good_in_turn}
use Rattle.acread.specs.through.Codes.{good_steps, dc_end}

and_none : (x : Bool) → false ≡ (x && false)
and_none true = refl
and_none false = refl

then_good : (b : List BlockRead) (x : PlanesRead) → good_planes (plane_then b x) ≡ good_planes x
then_good b bad_planes = refl
then_good b (planes_read bs at) = refl

by_both : (shift : ℕ) (x : DcSteps) (y : Blocks) (next : PerStream → PlanesRead) (f g : ℕ → Bool) → ((q : PerStream) → good_planes (next q) ≡ (f q.dc && g q.ac))
    → good_planes (by_plane (both_streams shift x y) next) ≡ (goes_on (dc_end x) f && goes_on (ac_end y) g)
by_both shift bad_steps y next f g h = refl
by_both shift (dc_steps ts q) bad_blocks next f g h = and_none (f (bytes_for q))
by_both shift (dc_steps ts q) (blocks bs r z) next f g h = then_good _ (next _) ∙ h _

pub planes_good : (shift : ℕ) (ps : List Plane) (b : Buffers) (at : PerStream)
    → good_planes (read_planes shift ps b at) ≡ (good_in_turn (dc_plane b.dc_bytes) (strides ps) at.dc && good_in_turn (ac_plane b.ac_bytes) (strides ps) at.ac)
unfolding read_planes read_plane good_in_turn
planes_good shift [] b at = refl
planes_good shift (p ∷ ps) b at =
    by_both shift (read_steps (blocks_of p.stride) (bit_at b.dc_bytes) (8 * at.dc)) (read_blocks (blocks_of p.stride) (bit_at b.ac_bytes) (8 * at.ac) 0)
    (λ q. read_planes shift ps b q) (λ q. good_in_turn (dc_plane b.dc_bytes) (strides ps) q) (λ q. good_in_turn (ac_plane b.ac_bytes) (strides ps) q) (λ q. planes_good shift ps b q)

one_both : (shift : ℕ) (x : DcSteps) (y : Blocks) → good_plane (both_streams shift x y) ≡ (good_steps x && good_ends (block_ends y))
one_both shift bad_steps y = refl
one_both shift (dc_steps ts q) bad_blocks = refl
one_both shift (dc_steps ts q) (blocks bs r z) = refl

pub plane_good : (shift n : ℕ) (dc ac : List ℕ) (d a : ℕ)
    → good_plane (read_plane shift n dc ac d a) ≡ (good_steps (read_steps n (bit_at dc) (8 * d)) && good_ends (block_ends (read_blocks n (bit_at ac) (8 * a) 0)))
unfolding read_plane
plane_good shift n dc ac d a = one_both shift (read_steps n (bit_at dc) (8 * d)) (read_blocks n (bit_at ac) (8 * a) 0)

-- the answer from the two streams'
pub both_streams_lem : {x y r : Bool} → x ≡ true → r ≡ y → r ≡ (x && y)
both_streams_lem {y = y} e f = f ∙ sym (ap (λ (b : Bool). b && y) e)

pub dc_bad : {x : Bool} (y : Bool) → x ≡ false → false ≡ (x && y)
dc_bad y e = sym (ap (λ (b : Bool). b && y) e)

-- the strides of a slice's first planes
pub first_strides_lem : (n : ℕ) (ps : List Plane) → strides (take n ps) ≡ take n (strides ps)
first_strides_lem zero ps = refl
first_strides_lem (suc n) [] = refl
first_strides_lem (suc n) (p ∷ ps) = ap (λ (l : List ℕ). p.stride ∷ l) (first_strides_lem n ps)
