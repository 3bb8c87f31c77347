-- A and B, by the threads that compare; where neither is marked in any thread, by none.
use mathlib.Core.Path.{ap, ◌∙◌}
use mathlib.Core.Bool.{not}
use mathlib.Core.List.{◌++◌}
use Prim.Native.Nat.{ℕ}
use Rattle.machine.specs.Marks.{input_halves}
use Rattle.operations.specs.Operation.{compares_by}
use Rattle.markreads.specs.Marked.{halves_marked, comparing}
use Rattle.markreads.proofs.Laws.{either_true, either_false, both-clear}
use Rattle.markreads.proofs.compared.Goals as goal

pub returns-then-not-input-2 : goal.returns-then-not-input-2
returns-then-not-input-2 c =
    both-clear c.args.marks.now (comparing (compares_by c.args.operation) c.args.registers.now) (input_halves c.args.a) (input_halves c.args.b)
    c.input.ensures (ap not c.if-not-input.true) c.input-then-not-input.ensures (ap not c.if-not-input-2.true)

pub returns-then-input : goal.returns-then-input
returns-then-input c =
    c.if-input.true
    ∙ either_true c.args.marks.now c.comparing-who.result (input_halves c.args.a) (input_halves c.args.b) c.input-2.ensures c.if-input.true
    ∙ ap (λ (w : ℕ). halves_marked c.args.marks.now w (input_halves c.args.a ++ input_halves c.args.b)) c.comparing-who.ensures

pub returns-else-input : goal.returns-else-input
returns-else-input c =
    either_false c.args.marks.now c.comparing-who.result (input_halves c.args.a) (input_halves c.args.b) c.input-2.ensures c.if-input.false
    c.input-else-input.ensures
    ∙ ap (λ (w : ℕ). halves_marked c.args.marks.now w (input_halves c.args.a ++ input_halves c.args.b)) c.comparing-who.ensures
