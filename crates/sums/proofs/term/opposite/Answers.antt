-- 0 less a number is its negative, modulo 2^64.
use Rattle.std.proofs.Common.{ℕ, ◌-◌, ◌%◌, ◌^◌, pos, sym, ap, ◌∙◌, arith, eq-eqb, ne_eqb}
use Rattle.machine.specs.Meaning.{negated}
use Rattle.sums.proofs.Modulo.{modulo_pos, modulo_neg}
use Rattle.sums.proofs.term.opposite.Goals as goal

pub returns-then-negate-eq1 : goal.returns-then-negate-eq1
unfolding negated
returns-then-negate-eq1 c =
    let a = c.args in
    rw (eq-eqb a.negate 1 c.if-negate-eq1.true)
    (sym (modulo_neg (pos a.x) ∙ ap (λ (n : ℕ). (2 ^ 64 - n) % 2 ^ 64) (modulo_pos a.x (omega arith)) ∙ omega arith))

pub returns-else-negate-eq1 : goal.returns-else-negate-eq1
unfolding negated
returns-else-negate-eq1 c =
    let a = c.args in
    rw (ne_eqb a.negate 1 c.if-negate-eq1.false) (sym (modulo_pos a.x (omega arith)))
