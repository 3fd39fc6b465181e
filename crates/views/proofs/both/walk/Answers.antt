-- `views::both::walk`: the two walks, and what they leave in the table.
use mathlib.Core.Path.{refl, sym}
use Rattle.ask.proofs.Asked.{exit}
use native.Mathlib.Omega.{arith}
use Rattle.layout.specs.Geometry.{slice_count, max_dc_len, max_ac_len}
use Rattle.parser.specs.head.Header.{header_length}
use Rattle.parser.proofs.head.Laws.{legal}
use Rattle.parser.specs.Frame.{nth_stream}
use Rattle.parser.proofs.Laws.{dc_no, dc_only, ac_no, ac_too, dc_walk, ac_walk}
use Rattle.views.specs.walk.Table.{views_of}
use Rattle.views.proofs.both.Laws.{ac_walks, dc_left, ac_left, none_left, no_dc, no_ac, only_dc_lem, both}
use Rattle.views.proofs.both.walk.Goals as goal

pub walk_views-requires-then-q-frame : goal.walk_views-requires-then-q-frame
walk_views-requires-then-q-frame c =
    let a = c.args in
    let w = a.size.width in
    let h = a.size.height in
    let l = legal w h a.frame.now c.requires.0.yes in
    let dc_is = dc_walk w h a.frame.now refl refl c.slice_count-slices.ensures c.max_dc_len-max_dc_len.ensures c.format_at-start.ensures c.in_ok-q.ensures.0 in
    ac_walks w h a.frame.now _ _ l c.slice_count-slices.ensures (omega arith) (omega arith) c.max_ac_len-max_ac_len.ensures (sym dc_is)

pub returns-in_err-q : goal.returns-in_err-q
returns-in_err-q c =
    let a = c.args in
    let w = a.size.width in
    let h = a.size.height in
    let dc_is = dc_walk w h a.frame.now refl refl c.slice_count-slices.ensures c.max_dc_len-max_dc_len.ensures c.format_at-start.ensures c.in_err-q.ensures.0 in
    let dc_table = dc_left w h a.frame.now a.table.now a.held.now c.walk_views.new.table c.slice_count-slices.ensures c.max_dc_len-max_dc_len.ensures c.format_at-start.ensures c.walk_views.ensures.1 in
    let dc_views = views_of (λ i. nth_stream i (max_dc_len w) a.frame.now (header_length a.frame.now)) (slice_count h) in
    record {
      says = exit _ c.from_residual.result _ c.from_residual.ensures.1 (sym (dc_no w h a.frame.now c.requires.0.yes (sym dc_is)));
      leaves = no_dc w h a.frame.now c.requires.0.yes a.table.now a.held.now c.requires.0.room c.requires.1 dc_views (sym dc_is) dc_table;
    }

pub returns-in_err-walk_views : goal.returns-in_err-walk_views
returns-in_err-walk_views c =
    let a = c.args in
    let w = a.size.width in
    let h = a.size.height in
    let dc_is = dc_walk w h a.frame.now refl refl c.slice_count-slices.ensures c.max_dc_len-max_dc_len.ensures c.format_at-start.ensures c.in_ok-q.ensures.0 in
    let dc_table = dc_left w h a.frame.now a.table.now a.held.now c.walk_views.new.table c.slice_count-slices.ensures c.max_dc_len-max_dc_len.ensures c.format_at-start.ensures c.walk_views.ensures.1 in
    let ac_is = ac_walk w h a.frame.now c.in_ok-q.q refl refl c.slice_count-slices.ensures c.max_ac_len-max_ac_len.ensures c.in_err-walk_views.ensures.0 in
    let ac_table = ac_left w h a.frame.now c.walk_views.new.table a.held.now c.walk_views-then-q-frame.new.table c.slice_count-slices.ensures c.in_ok-q.q c.max_ac_len-max_ac_len.ensures c.walk_views-then-q-frame.ensures.1 in
    let ac_views = views_of (λ i. nth_stream i (max_ac_len w) a.frame.now c.in_ok-q.q) (slice_count h) in
    record {
      says = exit _ c.from_residual-in_err-walk_views.result _ c.from_residual-in_err-walk_views.ensures.1
          (sym (ac_no w h a.frame.now c.requires.0.yes (sym dc_is) c.if-q-frame.true (sym ac_is)));
      leaves = no_ac w h a.frame.now c.requires.0.yes a.table.now a.held.now c.requires.0.room c.requires.1 (sym dc_is) dc_table ac_views c.if-q-frame.true (sym ac_is) ac_table;
    }

pub returns-then-q-frame : goal.returns-then-q-frame
returns-then-q-frame c =
    let a = c.args in
    let w = a.size.width in
    let h = a.size.height in
    let dc_is = dc_walk w h a.frame.now refl refl c.slice_count-slices.ensures c.max_dc_len-max_dc_len.ensures c.format_at-start.ensures c.in_ok-q.ensures.0 in
    let dc_table = dc_left w h a.frame.now a.table.now a.held.now c.walk_views.new.table c.slice_count-slices.ensures c.max_dc_len-max_dc_len.ensures c.format_at-start.ensures c.walk_views.ensures.1 in
    let ac_is = ac_walk w h a.frame.now c.in_ok-q.q refl refl c.slice_count-slices.ensures c.max_ac_len-max_ac_len.ensures c.in_ok-walk_views.ensures.0 in
    let ac_table = ac_left w h a.frame.now c.walk_views.new.table a.held.now c.walk_views-then-q-frame.new.table c.slice_count-slices.ensures c.in_ok-q.q c.max_ac_len-max_ac_len.ensures c.walk_views-then-q-frame.ensures.1 in
    record {
      says = sym (ac_too w h a.frame.now c.requires.0.yes (sym dc_is) c.if-q-frame.true (sym ac_is));
      leaves = both w h a.frame.now c.requires.0.yes a.table.now a.held.now c.requires.0.room c.requires.1 (sym dc_is) dc_table c.if-q-frame.true (sym ac_is) ac_table;
    }

pub returns : goal.returns
returns c =
    let a = c.args in
    let w = a.size.width in
    let h = a.size.height in
    let dc_is = dc_walk w h a.frame.now refl refl c.slice_count-slices.ensures c.max_dc_len-max_dc_len.ensures c.format_at-start.ensures c.in_ok-q.ensures.0 in
    let dc_table = dc_left w h a.frame.now a.table.now a.held.now c.walk_views.new.table c.slice_count-slices.ensures c.max_dc_len-max_dc_len.ensures c.format_at-start.ensures c.walk_views.ensures.1 in
    record {
      says = sym (dc_only w h a.frame.now c.requires.0.yes (sym dc_is) c.if-q-frame.false);
      leaves = only_dc_lem w h a.frame.now c.requires.0.yes a.table.now a.held.now c.requires.0.room c.requires.1 (sym dc_is) dc_table c.if-q-frame.false (none_left h c.walk_views.new.table c.slice_count-slices.ensures c.no_views.ensures);
    }
