use borrow.Author.Tests.{eq-eqb, ne_eqb}
use Rattle.machine.specs.Integer.{modulo}
use Rattle.fields.proofs.Shifts.{ones_past, ones-within}
use Rattle.fields.proofs.shift.mask.Goals as goal

pub returns-then-m-eq0 : goal.returns-then-m-eq0
unfolding modulo
returns-then-m-eq0 c = rw (eq-eqb c.args.m 0 c.if-m-eq0.true)

pub returns-then-m-lt64 : goal.returns-then-m-lt64
unfolding modulo
returns-then-m-lt64 c =
    let m = c.args.m in
    rw (ne_eqb m 0 c.if-m-eq0.false) (ones-within m 64 c.if-m-lt64.true)

pub returns-else-m-lt64 : goal.returns-else-m-lt64
unfolding modulo
returns-else-m-lt64 c =
    let m = c.args.m in
    rw (ne_eqb m 0 c.if-m-eq0.false) (ones_past m 64 c.if-m-lt64.false)
