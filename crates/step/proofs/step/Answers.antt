use mathlib.Core.Path.{refl, ◌∙◌}
use native.Mathlib.Omega.{arith}
use Rattle.machine.specs.State.{threads_at}
use Rattle.effect.specs.Tables.{tables_of}
use Rattle.step.proofs.Taken.{plan_refused, plan_taken, plan_ready}
use Rattle.step.proofs.step.Goals as goal

pub take-requires : goal.take-requires
take-requires c =
    let threads = threads_at c.args.registers.now c.args.marks.now c.args.mask in
    let tables = tables_of c.args.tables in (
      plan_ready c.args.code.now tables threads c.args.plan.now c.requires.0 _ c.in-Ok.is,
      omega arith,
      c.requires.3,
      c.requires.4 _ c.in-Ok.is,
    )

pub returns-in-Ok : goal.returns-in-Ok
returns-in-Ok c =
    let threads = threads_at c.args.registers.now c.args.marks.now c.args.mask in
    let tables = tables_of c.args.tables in (
      c.take.ensures.0 ∙ plan_taken c.args.code.now tables threads c.args.plan.now c.requires.0 _ c.in-Ok.is,
      rw c.in-Ok.is c.take.ensures.1,
      c.take.ensures.2,
    )

pub returns-in-Err : goal.returns-in-Err
returns-in-Err c =
    let threads = threads_at c.args.registers.now c.args.marks.now c.args.mask in
    let tables = tables_of c.args.tables in
    (plan_refused c.args.code.now tables threads c.args.plan.now c.requires.0 _ c.in-Err.is, refl, λ e. refl)
