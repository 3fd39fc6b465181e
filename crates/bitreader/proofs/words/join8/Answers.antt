-- `bitreader::words::join8` meets its contract. Assumes nothing.
use Rattle.bitreader.proofs.words.Words.{flat}
use Rattle.bitreader.proofs.words.join8.Goals as goal

pub returns : goal.returns
returns c =
    let x = c.args in
    let y = c.ranges in
    flat x.a x.b x.c x.d x.e x.f x.g x.h y.a.fits y.b.fits y.c.fits y.d.fits y.e.fits y.f.fits y.g.fits y.h.fits
