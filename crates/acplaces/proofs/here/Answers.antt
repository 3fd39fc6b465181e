-- `acplaces::here`: by one load where eight bytes are left.
use mathlib.Core.Path.{refl}
use Prim.Native.Nat.{◌*◌, ◌%◌, ◌^◌}
use Rattle.bitreader.proofs.Looks.{at_new}
use Rattle.bitreader.proofs.words.Words.{holds_peek}
use Rattle.acplaces.proofs.here.Goals as goal

pub returns-then-i-s : goal.returns-then-i-s
returns-then-i-s c =
    let a = c.args in
    (at_new a.s.now a.p ((c.word.result * 2 ^ (a.p % 8)) % 2 ^ 64) (holds_peek a.s.now a.p c.word.result c.word.ensures), refl)
