-- `acread::through::ac_good`: clean by the scan, or by the answer of the read-through.
use mathlib.Core.Path.{sym, ◌∙◌}
use Prim.Native.Nat.{◌*◌}
use Rattle.std.proofs.Common.{rules}
use Rattle.acread.proofs.through.Ends.{clean_blocks}
use Rattle.acread.proofs.through.ac_good.Goals as goal

pub returns-then-no_six_zeros : goal.returns-then-no_six_zeros
returns-then-no_six_zeros c =
    let a = c.args in
    sym (clean_blocks a.ac.now (λ j. search rules) a.at (sym c.no_six_zeros.ensures ∙ c.if-no_six_zeros.true) (2 * a.columns))
