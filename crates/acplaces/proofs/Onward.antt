-- Two parts of a turn, one after the other: whether a symbol was read.
use mathlib.Core.Path.{◌≡◌}
use mathlib.Core.List.{List}
use Prim.Native.Nat.{ℕ, ◌<◌}
use native.Mathlib.Omega.{arith}
use lib.IntN.{ℤ}
use Rattle.bitreader.specs.declared.AcCursor.{AcCursor}
use Rattle.bitreader.specs.Cursor.{At}
use Rattle.acplaces.specs.Going.{Going, Onward}
use Rattle.bitreader.specs.declared.Stop.{Stop}
use Rattle.acplaces.proofs.Going.{bare, going_at}

module _ {a b d : Stop} {nat nat₁ nat₂ : List ℤ} (t : Onward a nat b nat₁) (z : Onward b nat₁ d nat₂) {p : ℕ} (ep : a.c.pos ≡ p) where
  pub same_place : d.c.pos ≡ p → a.place < 64 → d.place < 64
  same_place e h =
      let x : b.c.pos ≡ a.c.pos = omega (arith, t.up, z.up, e, ep) in
      let y : d.c.pos ≡ b.c.pos = omega (arith, t.up, z.up, e, ep) in
      omega (arith, t.none x, z.none y, h)

-- where reading stands after both
pub after_both : {s : List ℕ} {p r q : ℕ} {u : AcCursor} {place : ℕ} {nat nat₁ nat₂ : List ℤ} {b d : Stop} → Going s p r (bare q) place nat → At s u × (u.pos ≡ q)
    → Onward (record { c = u; place = place }) nat b nat₁ → Onward b nat₁ d nat₂ → Going s p r d.c d.place nat₂
after_both {s} {p} {r} {q} {u} {place} {nat} i a t z = z.goes s p r (t.goes s p r (going_at s p r (bare q) place nat i u a.0 a.1))
