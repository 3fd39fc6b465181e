-- `bitreader::words::word` meets its contract. Assumes nothing.
use mathlib.Core.Path.{◌∙◌}
use native.Mathlib.Omega.{arith}
use Rattle.bitreader.proofs.words.Words.{num_eight}
use Rattle.bitreader.proofs.words.word.Goals as goal

pub returns : goal.returns
returns c =
    let s = c.before.before.before.before.before.before.before.before.before.before in
    c.join8.ensures ∙ num_eight s.args.s.now s.args.i (λ j. omega (arith, c.before.before.before.before.before.before.before.before.before.shared_slice_known-1.given j)) s.requires
