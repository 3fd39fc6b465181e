-- `questions::four::strides_ok`.
use mathlib.Core.Path.{◌∙◌}
use native.Mathlib.Omega.{arith}
use Rattle.std.proofs.Common.{rules, take}
use Rattle.std.proofs.lemmas.Iterator.{YieldsList-from_slice}
use Rattle.std.proofs.lemmas.Iterator.Search.{all_from_yields_List}
use borrow.Author.Tests.{tests}
use Rattle.ask.specs.Limits.{stride_ok}
use Rattle.questions.proofs.four.Laws.{all_four}
use Rattle.questions.proofs.four.strides_ok.Goals as goal

pub returns : goal.returns
returns c =
    let f = c.args.f in
    all_from_yields_List (λ x. stride_ok x) _ _ c.all.result c.all.ensures.ran (YieldsList-from_slice (take f.count f.strides) cc) (λ x b q k. search (rules, tests))
    ∙ all_four (λ x. stride_ok x) f.count f.strides (omega arith)
