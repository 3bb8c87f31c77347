use Prim.Native.Nat.{◌+◌, ◌-◌}
use mathlib.Core.Path.{◌≡◌, sym, ◌∙◌}
use native.Mathlib.Omega.{arith}
use Rattle.markreads.proofs.Laws.{of_none, block_clear, marked_here, marked_next}
use Rattle.markreads.proofs.halves.Goals as goal

pub returns-then-not-any : goal.returns-then-not-any
returns-then-not-any c = sym (block_clear c.args.marks.now c.args.who c.args.h c.args.n (sym c.any.ensures ∙ c.if-not-any.true))

pub loop-i-init : goal.loop-i-init
loop-i-init c = let e : c.args.h + c.args.n - c.args.h ≡ c.args.n = omega arith in rw e

pub loop-i-preserved : goal.loop-i-preserved
loop-i-preserved c =
    let a = c.args in
    c.loop-i.invariant
    ∙ marked_next a.marks.now a.who c.loop-i.i (a.h + a.n) (omega arith) (sym c.marked_by.ensures ∙ c.if-marked_by.false)

pub returns-then-marked_by : goal.returns-then-marked_by
returns-then-marked_by c =
    let a = c.args in
    sym (c.loop-i.invariant
    ∙ marked_here a.marks.now a.who c.loop-i.i (a.h + a.n) (omega arith) (sym c.marked_by.ensures ∙ c.if-marked_by.true))

pub returns : goal.returns
returns c =
    let a = c.args in
    let e : a.h + a.n - c.loop-i.i ≡ 0 = omega arith in
    sym (c.loop-i.invariant ∙ rw e (of_none a.marks.now a.who))
