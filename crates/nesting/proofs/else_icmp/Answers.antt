use Rattle.std.proofs.Common.{arith, eq-eqb, ne_eqb}
use Rattle.machine.specs.Integer.{modulo}
use Rattle.machine.specs.Meaning.{else_icmp}
use Rattle.nesting.proofs.else_icmp.Goals as goal

pub returns-then-v-eq0 : goal.returns-then-v-eq0
unfolding modulo else_icmp
returns-then-v-eq0 c =
    let v = c.args.v in
    rw (eq-eqb v 0 (omega arith)) (omega arith)

pub returns-then-holds : goal.returns-then-holds
unfolding modulo else_icmp
returns-then-holds c =
    let v = c.args.v in
    let e = ne_eqb v 0 (omega arith) in
    let f = eq-eqb v 1 (omega arith) in
    rw (e, f, ← c.holds.ensures, c.if-holds.true) (omega arith)

pub returns-else-holds : goal.returns-else-holds
unfolding modulo else_icmp
returns-else-holds c =
    let v = c.args.v in
    let e = ne_eqb v 0 (omega arith) in
    let f = eq-eqb v 1 (omega arith) in
    rw (e, f, ← c.holds.ensures, c.if-holds.false) (omega arith)

pub returns-else-v-eq1 : goal.returns-else-v-eq1
unfolding modulo else_icmp
returns-else-v-eq1 c =
    let v = c.args.v in
    rw (ne_eqb v 0 (omega arith), ne_eqb v 1 (omega arith)) (omega arith)
