-- `questions::of_call::reading_plane`.
use mathlib.Core.Path.{sym, ap, ◌∙◌}
use lib.Dec.{leb}
use Rattle.ask.specs.Limits.{stride_ok, rows_needed}
use Rattle.calls.specs.Views.{plane_call, lengths_by, starts_by}
use Rattle.questions.proofs.of_call.Laws.{and_yes, reading_is}
use Rattle.questions.proofs.of_call.reading_plane.Goals as goal

pub returns : goal.returns
returns c =
    let a = c.args in
    λ depth samples e. c.reading.ensures
    ∙ reading_is (plane_call depth a.s a.h samples) (lengths_by a.streams) (starts_by a.streams) c.place_ok-which.ensures
    (c.stride_ok-strides.ensures ∙ and_yes (stride_ok a.h.stride))
    (c.rows_ok-long.ensures ∙ ap (leb (rows_needed a.h.stride)) (sym e) ∙ and_yes _)
