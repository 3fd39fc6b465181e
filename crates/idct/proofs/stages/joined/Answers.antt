use mathlib.Core.Path.{refl, ap, ◌∙◌}
use Prim.Native.Nat.{ℕ}
use Rattle.lanes.specs.rows.Block.{block_of}
use Rattle.idct.specs.column.Rows.{inverse_join_rows}
use Rattle.idct.proofs.columns.Joined.{sum_call, diff_call, eight_rows}
use Rattle.idct.proofs.stages.joined.Goals as goal

pub returns : goal.returns
unfolding inverse_join_rows
returns g c =
    let s = c.args in
    let shift = c.COL_SHIFT-shift.result in
    eight_rows (inverse_join_rows shift s.o s.e) refl
    c.put.ensures (sum_call shift s.o.r0 s.e.r0 c.adds.ensures c.srai16-y0.ensures)
    c.put-2.ensures (sum_call shift s.e.r1 s.o.r1 c.adds-2.ensures c.srai16-y1.ensures)
    c.put-3.ensures (sum_call shift s.e.r2 s.o.r2 c.adds-3.ensures c.srai16-y2.ensures)
    c.put-4.ensures (sum_call shift s.o.r3 s.e.r3 c.adds-4.ensures c.srai16-y3.ensures)
    c.put-5.ensures (diff_call shift s.e.r3 s.o.r3 c.subs.ensures c.srai16-y4.ensures)
    c.put-6.ensures (diff_call shift s.e.r2 s.o.r2 c.subs-2.ensures c.srai16-y5.ensures)
    c.put-7.ensures (diff_call shift s.e.r1 s.o.r1 c.subs-3.ensures c.srai16-y6.ensures)
    c.put-8.ensures (diff_call shift s.e.r0 s.o.r0 c.subs-4.ensures c.srai16-y7.ensures)
    ∙ ap (λ (n : ℕ). block_of (inverse_join_rows n s.o s.e)) c.COL_SHIFT-shift.ensures
