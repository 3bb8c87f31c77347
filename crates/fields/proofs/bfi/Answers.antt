use Rattle.fields.proofs.Inserts.{bfi-is}
use Rattle.fields.proofs.bfi.Goals as goal

pub returns : goal.returns
returns c =
    let n = c in
    let s = n in
    rw (c.up-2.ensures, c.up.ensures, c.mask-ones.ensures, n.amount-s.ensures)
    (bfi-is s.args.m s.args.a s.args.b s.args.c s.ranges.a.fits s.ranges.b.fits)
