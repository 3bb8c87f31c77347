use mathlib.Core.Path.{◌∙◌}
use Rattle.answers.proofs.Numbers.{handed_on}
use Rattle.answers.proofs.returned.ended.Goals as goal

pub returns-in-Finished : goal.returns-in-Finished
returns-in-Finished c = rw c.in-Finished.is

pub returns-in-Spent : goal.returns-in-Spent
returns-in-Spent c = rw c.in-Spent.is

pub returns-in-Refused : goal.returns-in-Refused
returns-in-Refused c = rw c.in-Refused.is (handed_on c.refused.result c.refused.type_inv ∙ c.refused.ensures)
