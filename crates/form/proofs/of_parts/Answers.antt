use mathlib.Core.Path.{ap, ◌∙◌}
use Rattle.layout.specs.Lay.{lay_with}
use Rattle.form.proofs.of_parts.Goals as goal

pub returns : goal.returns
returns c = c.lay_out.ensures ∙ ap (lay_with c.args.p) c.length_of-n.ensures.0
