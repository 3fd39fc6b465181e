-- `entropy::coder::code_block`.
use mathlib.Core.Path.{◌≡◌, ap, ap₂, ◌∙◌}
use mathlib.Core.List.{List}
use Prim.Native.Nat.{ℕ, ◌≤◌}
use native.Mathlib.Omega.{arith}
use lib.IntN.{ℤ, nat_abs, ◌-ℤ◌}
use borrow.Author.Rules.{sfits_of}
use mir.Syntax.{w16, w32}
use mir.Val.{SFits}
use mir.Facts.{to_z-of_z}
use Rattle.scalar.specs.Tab.{lane}
use Rattle.scalar.proofs.Laws.{back}
use Rattle.calls.specs.Streams.{coded_dc}
use Rattle.calls.proofs.DcBack.{abs_less}
use Rattle.calls.proofs.DcNear.{dc_near}
use Rattle.entropy.specs.block.Places.{Small}
use Rattle.entropy.proofs.block.Codes.{small_fits}
use Rattle.entropy.proofs.plane.Blocks.{coded_one}
use Rattle.entropy.proofs.coder.code_block.Goals as goal

-- the coded DC, and the step, each read back from its bits
coded : (shift : ℕ) (z : List ℤ) {d : ℤ} → Small z → SFits w16 d → d ≡ coded_dc shift (back w16 (lane z 0)) → back w16 d ≡ coded_dc shift (lane z 0)
coded shift z s f e = to_z-of_z {w = w16} f ∙ e ∙ ap (coded_dc shift) (to_z-of_z {w = w16} (small_fits (lane z 0) (s 0)))

stepped : (d p : ℤ) {n x : ℤ} → SFits w32 x → nat_abs p ≤ 2048 → back w16 d ≡ n → x ≡ back w16 d -ℤ back w16 p → back w32 x ≡ n -ℤ p
stepped d p f s e h = to_z-of_z {w = w32} f ∙ h ∙ ap₂ ◌-ℤ◌ e (to_z-of_z {w = w16} (small_fits p s))

pub dc_block-dc-requires : goal.dc_block-dc-requires
dc_block-dc-requires g c =
    let d = coded_dc c.args.shift (lane c.args.z.now 0) in
    let n = dc_near c.args.shift (lane c.args.z.now 0) c.requires.shift_le (c.requires.small 0) in
    let e = stepped c.coded_dc-d.result c.args.s.pred (sfits_of c.diff16.type_inv) c.requires.pred_small (coded c.args.shift c.args.z.now c.requires.small (sfits_of c.coded_dc-d.type_inv) c.coded_dc-d.ensures) c.diff16.ensures in
    (rw e (omega (arith, abs_less d c.args.s.pred, n.small, c.requires.pred_small)), rw e c.requires.dc_room)

pub returns : goal.returns
returns g c =
    let d = coded c.args.shift c.args.z.now c.requires.small (sfits_of c.coded_dc-d.type_inv) c.coded_dc-d.ensures in
    let e = stepped c.coded_dc-d.result c.args.s.pred (sfits_of c.diff16.type_inv) c.requires.pred_small d c.diff16.ensures in
    coded_one c.args.z.now (rw e at c.dc_block-dc.ensures) c.ac_block-coded.ensures.0 d c.ac_block-coded.ensures.1
