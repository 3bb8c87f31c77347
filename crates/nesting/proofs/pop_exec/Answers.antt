use Rattle.std.proofs.Common.{arith}
use Rattle.machine.specs.Integer.{modulo}
use Rattle.nesting.proofs.Popped.{popped}
use Rattle.nesting.proofs.pop_exec.Goals as goal

pub returns : goal.returns
unfolding modulo
returns c a b = rw (popped c.args.n a b c.args.v) (omega arith)
