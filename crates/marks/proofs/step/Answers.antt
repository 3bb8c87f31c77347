-- By the kind of the action.
use mathlib.Core.Path.{refl}
use mathlib.Core.Bool.{true, false}
use mathlib.Core.Logic.{inl, inr}
use native.Mathlib.Omega.{arith}
use Rattle.machine.specs.Integer.{sign_extend}
use Rattle.operations.specs.Operation.{result_by, compares_by}
use Rattle.operations.specs.Action.{meaning_by}
use Rattle.marks.proofs.Laws.{of_data, of-masks, of-jump, of_quiet, loud}
use Rattle.marks.proofs.step.Goals as goal

pub returns-then-quiet : goal.returns-then-quiet
returns-then-quiet c =
    (of_quiet (meaning_by c.args.action) c.args.registers.now c.args.marks.now c.args.mask (c.requires.2 c.if-quiet.true), λ e. refl)

pub data-requires : goal.data-requires
data-requires c =
    let p = rw c.in-Writes.is at c.requires in
    (omega (arith, p.0, p.1), omega (arith, p.0, p.1), omega (arith, p.0, p.1), omega (arith, p.0, p.1))

pub masked-requires : goal.masked-requires
masked-requires c =
    let p = rw c.in-Masks.is at c.requires in
    (omega (arith, p.0, p.1), omega (arith, p.0, p.1), omega (arith, p.0, p.1), omega (arith, p.0, p.1))

pub returns-in-Writes : goal.returns-in-Writes
returns-in-Writes c =
    rw c.in-Writes.is (
      of_data c.args.registers.now c.args.mask _ c.args.marks.now _ c.args.action.d c.args.action.a c.args.action.b c.args.action.c (result_by c.args.action.operation) c.data.ensures,
      loud c.args.quiet c.if-quiet.false,
    )

pub returns-in-Masks : goal.returns-in-Masks
returns-in-Masks c =
    rw c.in-Masks.is (
      of-masks c.args.registers.now c.args.mask _ c.args.marks.now _ (compares_by c.args.action.operation) c.args.action.a c.args.action.b (result_by c.args.action.operation) c.masked.ensures,
      loud c.args.quiet c.if-quiet.false,
    )

pub returns-in-JumpsIfAny : goal.returns-in-JumpsIfAny
returns-in-JumpsIfAny c =
    elim c.in-JumpsIfAny.is [
      | inl any ↦ rw any (of-jump true (sign_extend c.args.action.off 32) c.args.registers.now c.args.mask c.args.marks.now, λ e. refl)
      | inr none ↦ rw none (of-jump false (sign_extend c.args.action.off 32) c.args.registers.now c.args.mask c.args.marks.now, λ e. refl)
    ]
