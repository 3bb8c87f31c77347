-- A turn that goes on takes at least one byte that both codes have; where a turn stops, its answer is the comparison's.
use mathlib.Core.Path.{sym, ap, ◌∙◌}
use native.Mathlib.Omega.{arith}
use Rattle.compare.proofs.Going.{turns}
use Rattle.compare.proofs.side_by_side.Goals as goal

pub after-a-requires : goal.after-a-requires
after-a-requires c =
    let l = c.loop-n in
    let t = turns c.args.first.now c.args.second.now _ _ _ _ _ l.invariant.0 l.invariant.1 l.invariant.2 (sym c.in-Continue.is ∙ c.compare_here.ensures) in
    omega (arith, t.0)

pub loop-n-smaller : goal.loop-n-smaller
loop-n-smaller c =
    let l = c.loop-n in
    let t = turns c.args.first.now c.args.second.now _ _ _ _ _ l.invariant.0 l.invariant.1 l.invariant.2 (sym c.in-Continue.is ∙ c.compare_here.ensures) in
    omega (arith, t.0, c.after-a.ensures.1)

pub loop-n-preserved : goal.loop-n-preserved
loop-n-preserved c =
    let l = c.loop-n in
    let t = turns c.args.first.now c.args.second.now _ _ _ _ _ l.invariant.0 l.invariant.1 l.invariant.2 (sym c.in-Continue.is ∙ c.compare_here.ensures) in (
      ap (λ r. r.now) c.after-a.ensures.0 ∙ l.invariant.0,
      ap (λ r. r.now) c.after-b.ensures.0 ∙ l.invariant.1,
      rw (c.after-a.ensures.1, c.after-b.ensures.1) t.1,
    )

pub returns-in-Break : goal.returns-in-Break
returns-in-Break c =
    let l = c.loop-n in
    turns c.args.first.now c.args.second.now _ _ _ _ _ l.invariant.0 l.invariant.1 l.invariant.2 (sym c.in-Break.is ∙ c.compare_here.ensures)
