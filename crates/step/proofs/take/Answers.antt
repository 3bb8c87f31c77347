-- The cases of a step in the order of the refusals.
use mathlib.Core.Path.{refl, sym, ap, ◌∙◌}
use mathlib.Core.List.{List}
use Prim.Native.Nat.{ℕ, ◌/◌, ◌≤◌, ◌<◌}
use native.Mathlib.Omega.{arith}
use lib.ListN.{length}
use Rattle.isa.specs.Refusal.{refusal}
use Rattle.machine.specs.State.{Threads, threads_at, state_at}
use Rattle.machine.specs.Step.{registers_reach, specials_reach}
use Rattle.machine.proofs.Steps.{nowhere-marks}
use Rattle.operations.specs.Action.{meaning_by}
use Rattle.effect.specs.Tables.{tables_of}
use Rattle.jumps.specs.AsGoing.{as_going, class_number}
use Rattle.step.specs.Told.{goes, stops}
use Rattle.step.proofs.Taken.{no_register, no_special, discarded, gone, reads_as, marks_stay, marks_change, together}
use Rattle.std.proofs.lemmas.Result.{err_from_is_err_and}
use Rattle.step.proofs.take.Goals as goal

pub returns-then-registers-from : goal.returns-then-registers-from
returns-then-registers-from c =
    let m = meaning_by c.args.task.now.action in
    let s = state_at (threads_at c.args.registers.now c.args.marks.now c.args.mask) c.args.address in
    let tables = tables_of c.args.tables in
    let h : length c.args.registers.now / 32 < registers_reach m = omega (arith, c.from.ensures, c.if-registers-from.true, c.requires.0.registers) in
    (no_register m c.args.task.now.bytes c.args.size tables s h, refl, λ e. refl)

pub returns-then-tables-from : goal.returns-then-tables-from
returns-then-tables-from c =
    let m = meaning_by c.args.task.now.action in
    let s = state_at (threads_at c.args.registers.now c.args.marks.now c.args.mask) c.args.address in
    let tables = tables_of c.args.tables in
    let h : registers_reach m ≤ length c.args.registers.now / 32 = omega (arith, c.from.ensures, c.if-registers-from.false, c.requires.0.registers) in
    let k : length c.args.tables.specials.now / 32 < specials_reach m = omega (arith, c.from-2.ensures, c.if-tables-from.true, c.requires.0.specials) in
    (no_special m c.args.task.now.bytes c.args.size tables s h k, refl, λ e. refl)

pub returns-then-step : goal.returns-then-step
returns-then-step c =
    let m = meaning_by c.args.task.now.action in
    let s = state_at (threads_at c.args.registers.now c.args.marks.now c.args.mask) c.args.address in
    let tables = tables_of c.args.tables in
    let h : registers_reach m ≤ length c.args.registers.now / 32 = omega (arith, c.from.ensures, c.if-registers-from.false, c.requires.0.registers) in
    let k : specials_reach m ≤ length c.args.tables.specials.now / 32 = omega (arith, c.from-2.ensures, c.if-tables-from.false, c.requires.0.specials) in (
      ap (λ (l : List ℕ). stops (refusal 10) c.args.registers.now l) (marks_stay m c.args.registers.now c.args.mask _ _ _ c.step.ensures.0 c.if-step.true)
          ∙ discarded m c.args.task.now.bytes c.args.size tables s h k (reads_as m c.args.registers.now c.args.mask _ c.args.marks.now _ c.step.ensures.0 c.if-step.true),
      refl,
      c.step.ensures.1,
    )

pub returns-in_err-next : goal.returns-in_err-next
returns-in_err-next c =
    let m = meaning_by c.args.task.now.action in
    let s = state_at (threads_at c.args.registers.now c.args.marks.now c.args.mask) c.args.address in
    let tables = tables_of c.args.tables in
    let h : registers_reach m ≤ length c.args.registers.now / 32 = omega (arith, c.from.ensures, c.if-registers-from.false, c.requires.0.registers) in
    let k : specials_reach m ≤ length c.args.tables.specials.now / 32 = omega (arith, c.from-2.ensures, c.if-tables-from.false, c.requires.0.specials) in
    let r = c.in_err-next.field-0.0 in
    let g = ap as_going (sym (c.in_err-next.was)) ∙ c.goes_to.ensures in
    let kept = marks_change m c.args.registers.now c.args.mask _ _ _ c.step.ensures.0 c.if-step.false ∙ nowhere-marks m c.args.size c.args.task.now.bytes c.args.address c.args.mask _ c.args.marks.now (sym g) in
    let p = err_from_is_err_and c.from_residual.result c.from_residual.ensures.1 in
    rw (p.1, p.2) (
      ap (λ (l : List ℕ). stops r c.args.registers.now l) kept
          ∙ gone m c.args.task.now.bytes c.args.size tables s h k (reads_as m c.args.registers.now c.args.mask _ c.args.marks.now _ c.step.ensures.0 c.if-step.false) _ g,
      refl,
      c.step.ensures.1,
    )

pub returns : goal.returns
returns c =
    let m = meaning_by c.args.task.now.action in
    let s = state_at (threads_at c.args.registers.now c.args.marks.now c.args.mask) c.args.address in
    let tables = tables_of c.args.tables in
    let h : registers_reach m ≤ length c.args.registers.now / 32 = omega (arith, c.from.ensures, c.if-registers-from.false, c.requires.0.registers) in
    let k : specials_reach m ≤ length c.args.tables.specials.now / 32 = omega (arith, c.from-2.ensures, c.if-tables-from.false, c.requires.0.specials) in
    let t = together m tables s.threads _ _ _ (c.act-after.ensures.0 c.args.marks.now) (marks_change m c.args.registers.now c.args.mask _ _ _ c.step.ensures.0 c.if-step.false) in (
      ap (λ (x : Threads). goes c.args.task.now.bytes (class_number c.in_ok-next.class) (state_at x c.in_ok-next.next)) t
          ∙ gone m c.args.task.now.bytes c.args.size tables s h k (reads_as m c.args.registers.now c.args.mask _ c.args.marks.now _ c.step.ensures.0 c.if-step.false) _
          (ap as_going (sym (c.in_ok-next.was)) ∙ c.goes_to.ensures),
      c.act-after.ensures.1,
      c.step.ensures.1,
    )
