-- In all threads, or in some.
use mathlib.Core.Path.{◌∙◌}
use Rattle.marksets.proofs.Laws.{set_one}
use Rattle.marksets.proofs.half.Goals as goal

pub returns-then-who-eq-ALL : goal.returns-then-who-eq-ALL
returns-then-who-eq-ALL c =
    rw c.if-who-eq-ALL.true (c.fill.ensures ∙ set_one c.args.h 4294967295 c.args.v c.args.marks.now)

pub returns-else-who-eq-ALL : goal.returns-else-who-eq-ALL
returns-else-who-eq-ALL c =
    c.set.ensures ∙ set_one c.args.h c.args.who c.args.v c.args.marks.now
