use Rattle.fields.proofs.Inserts.{shrhi-is}
use Rattle.fields.proofs.shrhi.Goals as goal

pub returns : goal.returns
returns c =
    let l = c in
    let n = l in
    let s = n in
    let e = rw (l.saturating_sub.ensures, l.mask.ensures, n.amount-s.ensures) at c.up-ones.ensures in
    rw (c.across.ensures, n.amount-s.ensures)
    (shrhi-is s.args.m s.args.a s.args.b s.args.c c.up-ones.result s.ranges.a.fits e)
