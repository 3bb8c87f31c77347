-- Every answer of a comparison can be told by a line.
use mathlib.Core.Path.{sym, ap, ◌∙◌, subst}
use lib.ListN.{length}
use Rattle.comparison.specs.AnswerLine.{line_of, written_of, line_left, Printable}
use Rattle.comparison.specs.declared.Comparison.{Comparison}
use Rattle.compared.proofs.Listed.{printable}
use Rattle.compare.proofs.compare_line.Goals as goal

pub write-requires : goal.write-requires
write-requires c =
    subst Printable (sym c.compare.ensures) (printable c.args.first.now c.args.second.now)

pub returns : goal.returns
returns c = (
  c.write.ensures.0 ∙ ap (λ (x : Comparison). written_of (line_of x) (length c.args.text.now)) c.compare.ensures,
  c.write.ensures.1 ∙ ap (λ (x : Comparison). line_left (line_of x) c.args.text.now) c.compare.ensures,
)
