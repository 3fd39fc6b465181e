-- One symbol more by its leading zeros.
use mathlib.Core.Path.{◌≡◌}
use mathlib.Core.List.{List}
use Prim.Native.Nat.{ℕ, ◌+◌, ◌<◌}
use native.Mathlib.Omega.{arith}
use lib.IntN.{ℤ}
use lib.ListN.{set}
use Rattle.bits.specs.Signed.{signed_of}
use Rattle.bitreader.specs.Cursor.{Inside}
use Rattle.bitreader.specs.declared.AcCursor.{AcCursor}
use Rattle.bitreader.specs.declared.Got.{Got}
use Rattle.tables.specs.Zigzag.{zigzag_at}
use Rattle.acplaces.specs.Going.{Onward}
use Rattle.bitreader.specs.declared.Stop.{Stop}
use Rattle.acplaces.proofs.Going.{going_value, going_run}

pub onward_same : {a b : Stop} {nat nat₁ nat₂ : List ℤ} → nat₂ ≡ nat₁ → {place : ℕ} → place ≡ b.place → Onward a nat b nat₁ → Onward a nat (record { c = b.c; place = place }) nat₂
onward_same e f i = rw (e, f) i

module _ (a : Stop) (nat₀ : List ℤ) (c : AcCursor) (place : ℕ) (nat : List ℤ) (i : Onward a nat₀ (record { c = c; place = place }) nat) (b : place < 64)
    (g : Got) (n : Inside c g) where
  pub value_onward : g.run ≡ 0 → {v : ℤ} → v ≡ signed_of g.num → {j : ℕ} → j ≡ zigzag_at place → Onward a nat₀ (record { c = g.c; place = place + 1 }) (set nat j v)
  value_onward h {v} e {j} f = record {
    goes = λ s p r k. let w = i.goes s p r k in going_value s p r c place nat w g b (n.symbol s w.holds) h e f;
    on = omega (arith, i.on);
    none = λ q. absurd (omega (arith, q, n.some, i.up));
    some = λ q. omega (arith, i.on);
    up = omega (arith, n.some, i.up);
  }

  pub run_onward : (g.run ≡ 0 → ⊥) → Onward a nat₀ (record { c = g.c; place = place + g.num }) nat
  run_onward h = record {
    goes = λ s p r k. let w = i.goes s p r k in going_run s p r c place nat w g b (n.symbol s w.holds) h;
    on = omega (arith, i.on);
    none = λ q. absurd (omega (arith, q, n.some, i.up));
    some = λ q. omega (arith, i.on, n.more);
    up = omega (arith, n.some, i.up);
  }
