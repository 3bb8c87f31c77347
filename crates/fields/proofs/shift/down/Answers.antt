use Rattle.fields.proofs.Shifts.{shr_past}
use Rattle.fields.proofs.shift.down.Goals as goal

pub returns-else-k-lt64 : goal.returns-else-k-lt64
returns-else-k-lt64 c = shr_past c.args.x c.args.k 64 c.ranges.x.fits c.if-k-lt64.false
