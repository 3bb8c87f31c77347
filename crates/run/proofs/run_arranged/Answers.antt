use mathlib.Core.Path.{refl, sym, subst, ap, ◌∙◌}
use mathlib.Core.Bool.{true}
use mathlib.Core.Logic.{inl, inr}
use Prim.Native.Nat.{◌-◌}
use native.Mathlib.Omega.{arith}
use lib.ListN.{length, get_or}
use borrow.Author.Tests.{eqb-true, not-false}
use Rattle.plan.proofs.Planning.{plan_of_end}
use Rattle.marks.specs.Settled.{AllClear}
use Rattle.marks.proofs.Laws.{found-clear}
use Rattle.step.proofs.Taken.{quiet_plan, still_clear}
use Rattle.run.proofs.Slots.{no_plan, cached_first, looked}
use Rattle.run.proofs.Turns.{at-start, at-end, at_spent, at-refusal, at-step}
use Rattle.run.proofs.run_arranged.Goals as goal
use Rattle.run.proofs.run_arranged.Goals.{then-not-is_of, else-not-is_of}

pub loop-address-init : goal.loop-address-init
loop-address-init c = (
  at-start (omega arith) c.requires,
  cached_first c.args.code.now (length c.args.code.now) c.past_end-cache.result (rw c.past_end-cache.ensures (plan_of_end c.args.code.now)),
  found-clear c.args.marks.now c.clear-quiet.result c.clear-quiet.ensures,
)

pub shape_of-registers-then-steps-budget : goal.shape_of-registers-then-steps-budget
shape_of-registers-then-steps-budget c = c.loop-address.invariant.0.registers_kept

pub shape_of-marks-then-steps-budget : goal.shape_of-marks-then-steps-budget
shape_of-marks-then-steps-budget c = c.loop-address.invariant.0.marks_kept

pub shape_of-records-then-steps-budget : goal.shape_of-records-then-steps-budget
shape_of-records-then-steps-budget c = c.loop-address.invariant.0.room_kept

pub returns-then-steps-budget : goal.returns-then-steps-budget
returns-then-steps-budget c = at_spent c.loop-address.invariant.0 c.loop-address-test.true c.if-steps-budget.true

pub at-requires : goal.at-requires
at-requires c = c.loop-address.invariant.0.inside

pub step-requires : goal.step-requires
step-requires c =
    let h = looked c.args.code.now c.loop-address.cache c.if-not-is_of.cache c.slot_of-k.result c.loop-address.address c.loop-address.invariant.1 (omega (arith, c.slot_of-k.ensures))
    (elim c.if-not-is_of.branch [ then-not-is_of w ↦ inl (w.at.result, w.at.ensures, w.cache-is) | else-not-is_of w ↦ inr (eqb-true _ _ (sym c.is_of.ensures ∙ w.if-not-is_of.false), w.cache-is) ]) in (
      h.is,
      rw h.here c.loop-address.invariant.0.inside,
      omega arith,
      omega (arith, c.loop-address.invariant.0.registers_kept, c.loop-address.invariant.0.marks_kept, c.loop-address.invariant.0.twice),
      quiet_plan c.args.code.now (get_or c.if-not-is_of.cache c.slot_of-k.result no_plan) h.is c.loop-address.quiet c.stays_quiet-quiet.result c.loop-address.marks (rw c.discards.ensures at c.stays_quiet-quiet.ensures) c.loop-address.invariant.2,
    )

pub shape_of-registers-in-Err : goal.shape_of-registers-in-Err
shape_of-registers-in-Err c = c.step.auto.registers ∙ c.loop-address.invariant.0.registers_kept

pub shape_of-marks-in-Err : goal.shape_of-marks-in-Err
shape_of-marks-in-Err c = c.step.auto.marks ∙ c.loop-address.invariant.0.marks_kept

pub shape_of-records-in-Err : goal.shape_of-records-in-Err
shape_of-records-in-Err c = c.loop-address.invariant.0.room_kept

pub returns-in-Err : goal.returns-in-Err
returns-in-Err c =
    let h = looked c.args.code.now c.loop-address.cache c.if-not-is_of.cache c.slot_of-k.result c.loop-address.address c.loop-address.invariant.1 (omega (arith, c.slot_of-k.ensures))
    (elim c.if-not-is_of.branch [ then-not-is_of w ↦ inl (w.at.result, w.at.ensures, w.cache-is) | else-not-is_of w ↦ inr (eqb-true _ _ (sym c.is_of.ensures ∙ w.if-not-is_of.false), w.cache-is) ]) in
    at-refusal c.loop-address.invariant.0 c.loop-address-test.true c.if-steps-budget.false c.step.result c.step.new.registers c.step.new.marks
    (rw h.here at c.step.ensures.0) c.in-Err.r c.in-Err.is

pub put-requires : goal.put-requires
put-requires c =
    omega (arith, ap length c.record-record.ensures)

pub overflow_add-steps : goal.overflow_add-steps
overflow_add-steps c = omega arith

pub loop-address-smaller : goal.loop-address-smaller
loop-address-smaller c =
    omega arith

pub loop-address-preserved : goal.loop-address-preserved
loop-address-preserved c =
    let h = looked c.args.code.now c.loop-address.cache c.if-not-is_of.cache c.slot_of-k.result c.loop-address.address c.loop-address.invariant.1 (omega (arith, c.slot_of-k.ensures))
    (elim c.if-not-is_of.branch [ then-not-is_of w ↦ inl (w.at.result, w.at.ensures, w.cache-is) | else-not-is_of w ↦ inr (eqb-true _ _ (sym c.is_of.ensures ∙ w.if-not-is_of.false), w.cache-is) ]) in (
      at-step c.loop-address.invariant.0 c.loop-address-test.true c.if-steps-budget.false c.step.result c.step.new.registers c.step.new.marks
          (rw h.here at c.step.ensures.0) c.in-Ok.next c.record-record.result c.put.new.out c.in-Ok.is
          c.step.auto.registers c.step.auto.marks (rw c.number-class.ensures at c.record-record.ensures) c.put.ensures,
      h.cached,
      λ e. subst AllClear (sym (c.step.ensures.2 e)) (still_clear c.loop-address.quiet c.stays_quiet-quiet.result _ c.loop-address.marks c.stays_quiet-quiet.ensures c.loop-address.invariant.2 e),
    )

pub shape_of-registers : goal.shape_of-registers
shape_of-registers c = c.loop-address.invariant.0.registers_kept

pub shape_of-marks : goal.shape_of-marks
shape_of-marks c = c.loop-address.invariant.0.marks_kept

pub shape_of-records : goal.shape_of-records
shape_of-records c = c.loop-address.invariant.0.room_kept

pub returns : goal.returns
returns c = at-end c.loop-address.invariant.0 c.loop-address-test.false

pub offset_bounds-cache-k : goal.offset_bounds-cache-k
offset_bounds-cache-k c = omega (arith, c.slot_of-k.ensures)

pub bounds-cache-k : goal.bounds-cache-k
bounds-cache-k c = omega (arith, c.slot_of-k.ensures)

pub offset_bounds-cache-k-then-not-is_of : goal.offset_bounds-cache-k-then-not-is_of
offset_bounds-cache-k-then-not-is_of c = omega (arith, c.slot_of-k.ensures)

pub bounds-cache-k-then-not-is_of : goal.bounds-cache-k-then-not-is_of
bounds-cache-k-then-not-is_of c = omega (arith, c.slot_of-k.ensures)

pub offset_bounds-cache-k-in-loop-address : goal.offset_bounds-cache-k-in-loop-address
offset_bounds-cache-k-in-loop-address c = omega (arith, c.slot_of-k.ensures)

pub bounds-cache-k-in-loop-address : goal.bounds-cache-k-in-loop-address
bounds-cache-k-in-loop-address c = omega (arith, c.slot_of-k.ensures)
