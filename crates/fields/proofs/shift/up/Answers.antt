use Rattle.fields.proofs.Shifts.{shl_past}
use Rattle.fields.proofs.shift.up.Goals as goal

pub returns-else-k-lt64 : goal.returns-else-k-lt64
returns-else-k-lt64 c = shl_past c.args.x c.args.k 64 c.if-k-lt64.false
