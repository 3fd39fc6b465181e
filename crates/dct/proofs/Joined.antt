-- From the shared path to a depth's own: one law over the depth.
use mathlib.Core.Bool.{Bool}
use mathlib.Core.List.{List}
use mathlib.Core.Path.{◌≡◌, ap, ◌∙◌}
use Prim.Native.Nat.{ℕ, ◌<◌}
use native.Mathlib.Omega.{arith}
use lib.IntN.{ℤ, pos, neg_ℤ}
use mir.Syntax.{w16}
use mir.Val.{SFits}
use mir.Facts.{to_z-of_z}
use Rattle.scalar.proofs.Laws.{back}
use Rattle.sample.specs.Depth as d
use Rattle.sample.specs.Depth.{Depth, is_ten}
use Rattle.quant.specs.Quantise.{quantise_of, scan_of}
use Rattle.fdct.specs.Forward.{column_shift, transform_of, forward_of}

pub shift_small : (depth : Depth) → column_shift (is_ten depth) < 15
shift_small d.eight = omega arith
shift_small d.ten = omega arith

pub joined : (ten : Bool) (preset level : ℕ) {shift : ℕ} {block b r : List ℤ} {a : ℤ} → SFits w16 a → a ≡ neg_ℤ (pos level) → b ≡ block → shift ≡ column_shift ten
    → r ≡ scan_of (quantise_of preset (transform_of shift (back w16 a) b)) → r ≡ scan_of (quantise_of preset (forward_of ten (pos level) block))
unfolding forward_of
joined ten preset level {block} {b} {r} {a} h e f s g =
    g
    ∙ ap (λ (n : ℕ). scan_of (quantise_of preset (transform_of n (back w16 a) b))) s
    ∙ ap (λ (z : ℤ). scan_of (quantise_of preset (transform_of (column_shift ten) z b))) (to_z-of_z h ∙ e)
    ∙ ap (λ (l : List ℤ). scan_of (quantise_of preset (transform_of (column_shift ten) (neg_ℤ (pos level)) l))) f
