use Prim.Native.Nat.{◌+◌, ◌-◌}
use mathlib.Core.Path.{◌≡◌, sym, ap, ◌∙◌}
use native.Mathlib.Omega.{arith}
use Rattle.machine.specs.Marks.{halves_from}
use Rattle.marksets.specs.Sets.{halves_set}
use Rattle.marksets.proofs.Laws.{set-none, set_next}
use Rattle.marksets.proofs.halves.Goals as goal

pub loop-i-init : goal.loop-i-init
loop-i-init c = let e : c.args.h + c.args.n - c.args.h ≡ c.args.n = omega arith in rw e

pub loop-i-preserved : goal.loop-i-preserved
loop-i-preserved c =
    let a = c.args in
    let l = c.loop-i in
    let e = a.h + a.n in
    l.invariant ∙ set_next l.i e a.who a.v l.marks (omega arith)
    ∙ ap (halves_set (halves_from (l.i + 1) (e - (l.i + 1))) a.who a.v) (sym c.half.ensures)

pub returns : goal.returns
returns c =
    let a = c.args in
    let e : a.h + a.n - c.loop-i.i ≡ 0 = omega arith in
    sym (c.loop-i.invariant ∙ rw e (sym (set-none a.who a.v c.loop-i.marks)))
