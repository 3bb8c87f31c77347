-- One operand after the other.
use mathlib.Core.Path.{ap, ◌∙◌}
use Rattle.machine.specs.Marks.{halves_from}
use Rattle.marksets.specs.Sets.{halves_set, discards}
use Rattle.marksets.proofs.masked.Goals as goal

pub returns : goal.returns
returns c =
    c.half.ensures
    ∙ ap (halves_set (halves_from 0 1) 4294967295 0) (c.discard-2.ensures ∙ ap (discards c.args.b) c.discard.ensures)
