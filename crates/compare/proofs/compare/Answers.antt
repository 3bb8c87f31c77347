-- Kernels that are not too long are walked; else the answer is the refusal.
use mathlib.Core.Path.{sym, ◌∙◌}
use Rattle.compare.proofs.Begin.{follows}
use Rattle.compare.proofs.compare.Goals as goal

pub returns-in-Continue : goal.returns-in-Continue
returns-in-Continue c =
    c.side_by_side.ensures ∙ follows c.args.first.now c.args.second.now _ (sym c.in-Continue.is ∙ c.begin.ensures)

pub returns-in-Break : goal.returns-in-Break
returns-in-Break c = follows c.args.first.now c.args.second.now _ (sym c.in-Break.is ∙ c.begin.ensures)
