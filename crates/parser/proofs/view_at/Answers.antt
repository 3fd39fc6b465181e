-- `parser::view_at`: the header's questions, then the two walks, which note the stream that is asked for.
use mathlib.Core.Path.{refl, sym, ◌∙◌}
use Rattle.ask.proofs.Asked.{exit}
use Rattle.layout.specs.Views.{is_ac}
use Rattle.parser.proofs.Laws.{frame_no, dc_only, dc_walk, nth_from, dc_nth, view_no, dc_wanted, ac_missing}
use Rattle.parser.proofs.view_at.Goals as goal

pub returns-in_err-size-clause-view : goal.returns-in_err-size-clause-view
returns-in_err-size-clause-view c =
    let a = c.args in
    exit _ c.from_residual.result _ c.from_residual.ensures.1
    (sym (view_no a.width a.height a.frame.now (is_ac a.kind) a.slice (sym (frame_no a.width a.height a.frame.now _ c.in_err-size.ensures.asked))))

pub returns-in-Dc-kind-clause-view : goal.returns-in-Dc-kind-clause-view
returns-in-Dc-kind-clause-view c =
    let a = c.args in
    let l = c.in_ok-size.ensures.legal in
    let none = sym c.in_ok-size.ensures.asked in
    let dc_is = dc_walk a.width a.height a.frame.now l.0 l.1 c.slice_count-slices.ensures c.max_dc_len-max_dc_len.ensures c.format_at-start.ensures c.in_ok-dc.ensures.after in
    let without = dc_only a.width a.height a.frame.now none (sym dc_is) c.if-q-frame.false in
    c.part_at-in-Dc-kind.ensures.view
    ∙ dc_wanted a.width a.height a.frame.now a.slice l.1 c.slice_count-slices.ensures without c.in-Dc-kind.is
    (λ k. dc_nth a.width a.height a.frame.now a.slice l.0 c.max_dc_len-max_dc_len.ensures c.format_at-start.ensures (nth_from a.slice _ a.frame.now _ ((c.in_ok-dc.ensures.noted k))))

pub returns-in-Ac-kind-clause-view : goal.returns-in-Ac-kind-clause-view
returns-in-Ac-kind-clause-view c =
    let a = c.args in
    let l = c.in_ok-size.ensures.legal in
    let none = sym c.in_ok-size.ensures.asked in
    let dc_is = dc_walk a.width a.height a.frame.now l.0 l.1 c.slice_count-slices.ensures c.max_dc_len-max_dc_len.ensures c.format_at-start.ensures c.in_ok-dc.ensures.after in
    let without = dc_only a.width a.height a.frame.now none (sym dc_is) c.if-q-frame.false in
    ac_missing a.width a.height a.frame.now a.slice l.1 c.slice_count-slices.ensures without c.in-Ac-kind.is refl
