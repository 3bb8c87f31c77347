use Rattle.fields.proofs.Inserts.{bfeil-is}
use Rattle.fields.proofs.bfeil.Goals as goal

pub returns : goal.returns
returns c =
    let n = c in
    let s = n in
    rw (c.down.ensures, c.mask-ones.ensures, n.amount-s.ensures)
    (bfeil-is s.args.m s.args.a s.args.b s.args.c s.ranges.a.fits s.ranges.b.fits)
