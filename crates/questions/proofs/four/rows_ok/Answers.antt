-- `questions::four::rows_ok`.
use mathlib.Core.Path.{◌∙◌}
use native.Mathlib.Omega.{arith}
use Rattle.std.proofs.Common.{rules, take, leb, ℕ}
use Rattle.std.proofs.lemmas.Iterator.{YieldsList-from_slice, YieldsList-from_zip}
use Rattle.std.proofs.lemmas.Iterator.Search.{all_from_yields_List}
use borrow.Author.Tests.{tests}
use Rattle.ask.specs.Limits.{rows_needed}
use Rattle.questions.proofs.four.Laws.{zip_all_four}
use Rattle.questions.proofs.four.rows_ok.Goals as goal

pub returns : goal.returns
returns c =
    let f = c.args.f in
    all_from_yields_List (λ (p : ℕ × ℕ). leb (rows_needed p.0) p.1) c.all.new.self _ c.all.result c.all.ensures.ran
    (YieldsList-from_zip {s = c.zip.result} (YieldsList-from_slice (take f.count f.strides) cc) (YieldsList-from_slice c.args.rows cc)) (λ x b q k. search (rules, tests))
    ∙ zip_all_four (λ s n. leb (rows_needed s) n) f.count f.strides c.args.rows (omega arith) (omega arith)
