use Rattle.std.proofs.Common.{arith, eq-eqb, ne_eqb}
use Rattle.machine.specs.Integer.{modulo}
use Rattle.machine.specs.Meaning.{if_icmp}
use Rattle.nesting.proofs.if_icmp.Goals as goal

pub returns-then-v-ne0 : goal.returns-then-v-ne0
unfolding modulo if_icmp
returns-then-v-ne0 c =
    let v = c.args.v in
    rw (ne_eqb v 0 (omega arith)) (omega arith)

pub returns-then-holds : goal.returns-then-holds
unfolding modulo if_icmp
returns-then-holds c =
    let v = c.args.v in
    rw (eq-eqb v 0 (omega arith), ← c.holds.ensures, c.if-holds.true) (omega arith)

pub returns-else-holds : goal.returns-else-holds
unfolding modulo if_icmp
returns-else-holds c =
    let v = c.args.v in
    rw (eq-eqb v 0 (omega arith), ← c.holds.ensures, c.if-holds.false) (omega arith)
