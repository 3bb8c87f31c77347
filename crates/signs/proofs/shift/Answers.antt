use Rattle.std.proofs.Common.{arith}
use Rattle.signs.proofs.Shifts.{shift_out}
use Rattle.signs.proofs.shift.Goals as goal

pub returns-else-k-lt64 : goal.returns-else-k-lt64
returns-else-k-lt64 c = shift_out c.args.x c.args.k (omega arith) c.if-k-lt64.false
