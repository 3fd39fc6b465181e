-- `questions::of_call::reading_slice`.
use mathlib.Core.Path.{◌∙◌}
use Rattle.ask.specs.Limits.{stride_ok}
use Rattle.calls.specs.Arguments.{planes_lent}
use Rattle.calls.specs.Views.{stride_by, slice_call, lengths_by, starts_by}
use Rattle.questions.proofs.of_call.Laws.{each_take, rows_take, reading_is}
use Rattle.questions.proofs.of_call.reading_slice.Goals as goal

pub returns : goal.returns
returns c =
    let a = c.args in
    λ depth p0 p1 p2 p3 e0 e1 e2 e3. c.reading.ensures
    ∙ reading_is (slice_call depth a.s a.f p0 p1 p2 p3) (lengths_by a.streams) (starts_by a.streams)
    c.count_ok-which.ensures
    (c.strides_ok-strides.ensures ∙ each_take (λ p. stride_ok p.stride) a.f.count (planes_lent (slice_call depth a.s a.f p0 p1 p2 p3)))
    (c.rows_ok-long.ensures ∙ rows_take a.f.count (stride_by a.f 0) (stride_by a.f 1) (stride_by a.f 2) (stride_by a.f 3) p0 p1 p2 p3 e0 e1 e2 e3)
