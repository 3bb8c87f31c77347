-- One source, or the next.
use mathlib.Core.Path.{◌≡◌, sym, ◌∙◌}
use mathlib.Core.List.{◌++◌}
use Prim.Native.Nat.{ℕ}
use native.Mathlib.Omega.{arith}
use Rattle.machine.specs.Marks.{input_halves}
use Rattle.markreads.proofs.Laws.{either_true, either_false}
use Rattle.markreads.proofs.data.Goals as goal
use Rattle.markreads.proofs.data.Goals.{then-input, else-input}

pub returns-then-input-2 : goal.returns-then-input-2
returns-then-input-2 c =
    let m = c.args.marks.now in
    let a = input_halves c.args.a in
    let b = input_halves c.args.b in
    let l = input_halves c.args.c in
    elim c.if-input.branch [
      | then-input w ↦ w.value-is ∙ w.if-input.true ∙ either_true m c.args.mask a (b ++ l) c.input.ensures w.if-input.true
      | else-input w ↦ w.value-is ∙ either_false m c.args.mask a (b ++ l) c.input.ensures w.if-input.false
          (sym w.value-is ∙ c.if-input-2.true ∙ either_true m c.args.mask b l w.input-else-input.ensures (sym w.value-is ∙ c.if-input-2.true))
    ]

pub returns-else-input-2 : goal.returns-else-input-2
returns-else-input-2 c =
    let m = c.args.marks.now in
    let a = input_halves c.args.a in
    let b = input_halves c.args.b in
    let l = input_halves c.args.c in
    elim c.if-input.branch [
      | then-input w ↦ let v = w.value-is in let t = w.if-input.true in let f = c.if-input-2.false in let z : ◌≡◌ {A = ℕ} 0 1 = cc in absurd (omega arith)
      | else-input w ↦ either_false m c.args.mask a (b ++ l) c.input.ensures w.if-input.false
          (either_false m c.args.mask b l w.input-else-input.ensures (sym w.value-is ∙ c.if-input-2.false) c.input-else-input-2.ensures)
    ]
