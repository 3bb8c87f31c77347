use mathlib.Core.Path.{◌∙◌}
use native.Mathlib.Omega.{arith}
use Rattle.answers.proofs.Numbers.{handed_on}
use Rattle.answers.proofs.returned.encoded.Goals as goal

pub count-requires : goal.count-requires
count-requires c =
    let h = rw c.in-Ok.is at c.requires in
    omega arith

pub returns-in-Ok : goal.returns-in-Ok
returns-in-Ok c = rw c.in-Ok.is (handed_on c.count.result c.count.type_inv ∙ c.count.ensures)

pub returns-in-Err : goal.returns-in-Err
returns-in-Err c = rw c.in-Err.is (handed_on c.refused.result c.refused.type_inv ∙ c.refused.ensures)
