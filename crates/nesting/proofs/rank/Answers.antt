use Rattle.std.proofs.Common.{ℕ, ◌+◌, ◌%◌, ◌^◌, ap, arith, eq-eqb, ne_eqb}
use Rattle.machine.specs.Integer.{modulo}
use Rattle.machine.specs.Meaning.{extended}
use Rattle.nesting.specs.Rank.{rank_of}
use Rattle.nesting.proofs.rank.Goals as goal

pub returns-then-signed-eq1 : goal.returns-then-signed-eq1
unfolding extended rank_of
returns-then-signed-eq1 c =
    let e = eq-eqb c.args.signed 1 c.if-signed-eq1.true in
    rw e (ap (λ (x : ℕ). (x + 2 ^ 63) % 2 ^ 64) (rw e at c.extend-word.ensures))

pub returns-else-signed-eq1 : goal.returns-else-signed-eq1
unfolding extended modulo rank_of
returns-else-signed-eq1 c =
    let e = ne_eqb c.args.signed 1 c.if-signed-eq1.false in
    rw e (omega (arith, rw e at c.extend-word.ensures))
