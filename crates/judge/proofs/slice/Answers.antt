-- `judge::slice`: the first planes of either stream.
use mathlib.Core.Path.{sym, ap, ◌∙◌}
use mathlib.Core.Bool.{◌&&◌}
use mathlib.Core.List.{List}
use Prim.Native.Nat.{ℕ}
use Rattle.calls.specs.Arguments.{buffers}
use Rattle.calls.specs.Views.{positions_by}
use Rattle.judge.specs.Good.{first_strides, dc_plane, ac_plane, good_in_turn}
use Rattle.judge.proofs.Planes.{planes_good, both_streams_lem, dc_bad}
use Rattle.judge.proofs.slice.Goals as goal

pub returns-then-stream_good : goal.returns-then-stream_good
returns-then-stream_good c = λ shift ps e.
    let a = c.args in
    both_streams_lem (sym c.stream_good.ensures ∙ c.if-stream_good.true) c.stream_good-then-stream_good.ensures
    ∙ ap (λ (l : List ℕ). good_in_turn (dc_plane a.dc.now) l a.at.dc && good_in_turn (ac_plane a.ac.now) l a.at.ac) (sym e)
    ∙ sym (planes_good shift ps (buffers a.dc.now a.ac.now) (positions_by a.at))

pub returns-else-stream_good : goal.returns-else-stream_good
returns-else-stream_good c = λ shift ps e.
    let a = c.args in
    c.if-stream_good.false ∙ dc_bad (good_in_turn (ac_plane a.ac.now) (first_strides a.f) a.at.ac) (sym c.stream_good.ensures ∙ c.if-stream_good.false)
    ∙ ap (λ (l : List ℕ). good_in_turn (dc_plane a.dc.now) l a.at.dc && good_in_turn (ac_plane a.ac.now) l a.at.ac) (sym e)
    ∙ sym (planes_good shift ps (buffers a.dc.now a.ac.now) (positions_by a.at))
