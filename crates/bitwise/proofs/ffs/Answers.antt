use mathlib.Core.Path.{◌∙◌}
use Rattle.machine.specs.Meaning.{ffs}
use Rattle.bitwise.proofs.Counts.{place_of, no_place}
use Rattle.bitwise.proofs.ffs.Goals as goal

pub returns-then-low-eq0 : goal.returns-then-low-eq0
unfolding ffs
returns-then-low-eq0 c b c' = no_place c.args.a c.if-low-eq0.true

pub returns : goal.returns
unfolding ffs
returns c b c' = c.from.ensures ∙ (place_of c.args.a c.if-low-eq0.false).place
