-- By the sign bit's power the value is extended, by 0 it is as it was.
use Rattle.std.proofs.Common.{arith, eq-eqb, ne_eqb}
use lib.Bits.{xor_zero_r}
use Rattle.machine.specs.Integer.{modulo}
use Rattle.machine.specs.Meaning.{extended}
use Rattle.signs.proofs.Modulo.{sign_power, xor_extends}
use Rattle.signs.proofs.extend.Goals as goal
use Rattle.signs.proofs.extend.Goals.{then-signed-eq1, else-signed-eq1}

pub returns : goal.returns
unfolding extended modulo
returns c =
    let a = c.args in
    let p = c.requires in
    elim c.if-signed-eq1.branch [
      | then-signed-eq1 w ↦
          rw (eq-eqb a.signed 1 w.if-signed-eq1.true, w.top-is, sign_power a.size p) (xor_extends a.x a.size p)
      | else-signed-eq1 w ↦
          rw (ne_eqb a.signed 1 w.if-signed-eq1.false, w.top-is) (omega (arith, xor_zero_r a.x))
    ]
