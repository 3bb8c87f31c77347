use Rattle.fields.proofs.Inserts.{extr-is}
use Rattle.fields.proofs.extr.Goals as goal

pub returns : goal.returns
returns c =
    let n = c in
    let s = n in
    rw (c.mask.ensures, c.down.ensures, c.across-high.ensures, n.amount-s.ensures)
    (extr-is s.args.m s.args.a s.args.b s.args.c s.ranges.a.fits)
