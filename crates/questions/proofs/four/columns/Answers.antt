-- `questions::four::columns`.
use mathlib.Core.Path.{refl, ◌∙◌}
use native.Mathlib.Omega.{arith}
use Rattle.std.proofs.Common.{rules, take, length, ◌/◌, ◌≤◌}
use Rattle.std.proofs.lemmas.Iterator.{YieldsList-from_slice, YieldsList-from_map}
use Rattle.std.proofs.lemmas.Iterator.Consumers.{sum_by_from_yields_List}
use Rattle.std.proofs.lemmas.Iterator.Adapters.{fits_from_length, at_most_from_yields_List}
use borrow.Author.Tests.{tests}
use Rattle.questions.proofs.four.Laws.{sum_four, take_few}
use Rattle.questions.proofs.four.columns.Goals as goal

pub sum-requires-clause-fits : goal.sum-requires-clause-fits
sum-requires-clause-fits c =
    let f = c.args.f in
    let m = take f.count f.strides in
    let l : length m ≤ 4 = take_few f.count f.strides (omega arith) in
    fits_from_length _ _ 4 _ (at_most_from_yields_List (YieldsList-from_slice m cc) l) c.map.ensures.closure (omega arith) (λ x r q k. search (rules, tests))

pub returns : goal.returns
returns c =
    let f = c.args.f in
    let m = take f.count f.strides in
    sum_by_from_yields_List (λ x. x / 8) m c.map.result c.sum.result c.sum.ensures.ran (YieldsList-from_map _ (λ x. x / 8) (YieldsList-from_slice m cc) refl (λ x r q k. search rules))
    ∙ sum_four f.count f.strides (omega arith)
