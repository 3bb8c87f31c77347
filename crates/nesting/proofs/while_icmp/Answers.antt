use Rattle.std.proofs.Common.{arith, le-ltb, lt-ltb}
use Rattle.machine.specs.Integer.{modulo}
use Rattle.machine.specs.Meaning.{while_icmp}
use Rattle.nesting.proofs.while_icmp.Goals as goal

pub returns-then-holds : goal.returns-then-holds
unfolding modulo while_icmp
returns-then-holds c =
    let a = c.args in
    rw (lt-ltb a.v a.o.n (omega arith), ← c.holds.ensures, c.if-holds.true) (omega arith)

pub returns-else-holds : goal.returns-else-holds
unfolding modulo while_icmp
returns-else-holds c =
    let a = c.args in
    rw (lt-ltb a.v a.o.n (omega arith), ← c.holds.ensures, c.if-holds.false) (omega arith)

pub returns-else-v-n : goal.returns-else-v-n
unfolding modulo while_icmp
returns-else-v-n c =
    let a = c.args in
    rw (le-ltb a.v a.o.n (omega arith)) (omega arith)
