use mir.Facts.{to_z-of_z}
use Rattle.paint.proofs.Pixels.{samples_flat}
use Rattle.paint.proofs.broadcast_dc.Goals as goal

pub returns : goal.returns
returns g c =
    samples_flat g.met.S.Sample.lists c.args.stride c.flat-v.result c.args.rows.now (rw (to_z-of_z c.ranges.dc, to_z-of_z c.ranges.level) at c.flat-v.ensures) c.store.ensures
