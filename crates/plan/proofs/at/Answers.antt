use mathlib.Core.Path.{refl}
use Rattle.plan.proofs.Planning.{rest}
use Rattle.plan.proofs.at.Goals as goal

pub returns : goal.returns
returns c =
    record { here = refl; says = rw (rest c.args.code.now c.args.address) at c.first_task.ensures }
