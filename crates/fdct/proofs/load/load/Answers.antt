use Rattle.std.proofs.Common.{rules}
use mathlib.Core.Path.{◌∙◌}
use Prim.Native.Nat.{◌*◌}
use Rattle.lanes.proofs.rows.Loops.{by_rows}
use Rattle.sample.specs.Numbers.{lane_of}
use Rattle.fdct.specs.Forward.{lanes_of}
use Rattle.fdct.specs.load.Samples.{row_lanes_of}
use Rattle.fdct.proofs.Places.{rows_loaded}
use Rattle.fdct.proofs.load.load.Goals as goal

pub returns : goal.returns
unfolding lanes_of row_lanes_of
returns g c =
    let S = g.S.Sample in
    let rows = S.samples c.args.rows.now in
    by_rows c.each_row.result (λ r. row_lanes_of S.depth rows (r * c.args.stride)) (search rules) c.each_row.ensures
    ∙ rows_loaded (lane_of S.depth) rows c.args.stride
