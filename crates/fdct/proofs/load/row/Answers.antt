use Rattle.std.proofs.Common.{rules}
use Prim.Native.Nat.{◌+◌}
use native.Mathlib.Omega.{arith}
use lib.IntN.{pos}
use Rattle.lanes.proofs.Elements.{by_elements}
use Rattle.sample.specs.Numbers.{lane_of}
use Rattle.fdct.specs.load.Samples.{row_lanes_of}
use Rattle.fdct.proofs.Places.{number_read}
use Rattle.fdct.proofs.load.row.Goals as goal

pub returns : goal.returns
unfolding row_lanes_of
returns g c =
    let S = g.S.Sample in
    by_elements (pos 0) 8 c.each.result (search rules)
    (λ k h.
    number_read {number = S.number} {samples = S.samples} g.met.S.Sample.lists (lane_of S.depth) c.args.rows.now (c.args.at + k) (omega (arith, c.requires)) (c.each.ensures k (pos 0) h))
