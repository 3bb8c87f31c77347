-- A shift up is one of the word; a shift of 5 or more leaves 0.
use Rattle.std.proofs.Common.{ℕ, ◌*◌, ◌%◌, ◌^◌, pos, sym, ap, ◌∙◌, le-ltb, lt-ltb}
use Rattle.machine.specs.Integer.{modulo}
use Rattle.machine.specs.Meaning.{negated, scaled}
use Rattle.signs.proofs.Shifts.{modulo_up}
use Rattle.sums.proofs.term.term.Goals as goal

pub returns-then-shift-lt5 : goal.returns-then-shift-lt5
unfolding scaled
returns-then-shift-lt5 c =
    let a = c.args in
    rw (lt-ltb a.shift 5 c.if-shift-lt5.true)
    (ap (λ (n : ℕ). n * 2 ^ a.shift % 2 ^ 64) c.opposite.ensures
    ∙ sym (modulo_up (negated a.negate (pos a.x)) a.shift))

pub returns-else-shift-lt5 : goal.returns-else-shift-lt5
unfolding scaled modulo
returns-else-shift-lt5 c = rw (le-ltb c.args.shift 5 c.if-shift-lt5.false)
