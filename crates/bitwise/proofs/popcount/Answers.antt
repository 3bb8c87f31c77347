use mathlib.Core.Path.{◌∙◌}
use Rattle.machine.specs.Meaning.{popcount}
use Rattle.bitwise.proofs.Counts.{count-is}
use Rattle.bitwise.proofs.popcount.Goals as goal

pub returns : goal.returns
unfolding popcount
returns c b c' = c.from.ensures ∙ count-is c.args.a
