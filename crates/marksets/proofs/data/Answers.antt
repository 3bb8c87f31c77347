-- One operand after the other.
use mathlib.Core.Path.{ap, ◌∙◌}
use Rattle.machine.specs.Marks.{destination_halves}
use Rattle.marksets.specs.Sets.{halves_set, discards}
use Rattle.marksets.proofs.data.Goals as goal

pub returns : goal.returns
returns c =
    c.destination.ensures
    ∙ ap (halves_set (destination_halves c.args.d) c.args.mask 0)
    (c.discard-3.ensures
    ∙ ap (discards c.args.c) (c.discard-2.ensures ∙ ap (discards c.args.b) c.discard.ensures))
