use mathlib.Core.Path.{ap, ◌∙◌}
use mathlib.Core.Bool.{not}
use Rattle.markrows.proofs.Parts.{part_marked}
use Rattle.markrows.proofs.any.Goals as goal

pub returns : goal.returns
returns c = ap not c.greatest.ensures ∙ part_marked c.args.marks.now c.args.h c.args.n c.requires
