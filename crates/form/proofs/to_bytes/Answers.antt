use mathlib.Core.Path.{◌≡◌, ap, ◌∙◌}
use Rattle.form.specs.Form.{lay_out, form_of, spelled_of}
use Rattle.form.proofs.Typed.{instruction_fits}
use Rattle.form.proofs.Form.{form_spelled}
use Rattle.form.proofs.to_bytes.Goals as goal

pub returns : goal.returns
returns c =
    let e : c.of_parts.result ≡ form_of c.args.i = c.of_parts.ensures ∙ ap lay_out c.parts_of.ensures in
    (e, ap spelled_of e ∙ form_spelled c.args.i (instruction_fits c.args.i _ c.well_formed.0))
