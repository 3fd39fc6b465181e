-- A block that is filled by the zeros still to come: no code is read for it.
use Rattle.std.proofs.Common.{ℕ, ◌-◌, ◌^◌, ◌<◌, ◌≤◌, List, replicate, ℤ, pos, sym, refl, ap, ◌∙◌, arith}
use Rattle.bits.specs.Bits.{bit_at}
use Rattle.calls.specs.ReadPlane.{places}
use Rattle.acplaces.specs.Places.{Placed}
use Rattle.acplaces.specs.Going.{behind}
use Rattle.acplaces.proofs.Scan.{scan_zero}
use Rattle.acplaces.proofs.Symbols.{zeros_first, over}

pub all_zeros : (l : List ℕ) (p r : ℕ) → 64 ≤ r → r < 2 ^ 57 → Placed l p r (record { at = p; pending = r - 64 }) (replicate 64 (pos 0))
all_zeros l p r h f =
    record {
      answer =
          zeros_first (bit_at l) 64 64 p r (omega arith) ∙ ap (behind (replicate 64 (pos 0))) (over (bit_at l) r p h)
          ∙ ap (λ (cs : List ℤ). places cs p (r - 64)) (sym scan_zero);
      near = omega arith;
      few = omega arith;
      count = refl;
    }
