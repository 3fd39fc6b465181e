-- `builder::streams::put_stream`.
use mathlib.Core.Path.{sym, ◌∙◌, ap}
use native.Mathlib.Omega.{arith}
use lib.ListN.{length}
use Rattle.layout.specs.Geometry.{slice_count}
use Rattle.layout.specs.Views.{is_ac}
use Rattle.builder.specs.Views.{builder_says}
use Rattle.builder.proofs.streams.Laws.{puts, stream_done, stream_built}
use Rattle.builder.proofs.streams.put_stream.Goals as goal

pub returns : goal.returns
returns c =
    let a = c.args in
    let g = puts a.width a.height (builder_says a.b) (is_ac a.kind) a.slice (length a.s.now) (length a.out.now) (sym c.in-Ok.ensures.asked) in
    stream_done a.width a.height (builder_says a.b) (is_ac a.kind) a.slice a.s.now a.out.now (sym c.in-Ok.ensures.asked)
    ∙ stream_built (builder_says a.b) a.out.now a.b.at a.s.now (omega (arith, g.room)) (c.slice_count-slices.ensures ∙ ap slice_count c.in-Ok.ensures.legal) c.next_state.ensures c.copy_in.ensures c.put_length.ensures
