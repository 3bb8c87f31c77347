use Prim.Native.Nat.{◌+◌, ◌*◌}
use mathlib.Core.Path.{◌≡◌, refl, ap₂, ◌∙◌}
use mathlib.Core.Bool.{Bool, true, cond}
use native.Mathlib.Omega.{arith}
use native.Mathlib.Numerals.{add-one}
use lib.ListN.{get_or}
use Rattle.machine.specs.Lanes.{active_in, any_below}
use Rattle.markrows.proofs.Setting.{greatest, chosen}
use Rattle.markrows.proofs.marked_by.Goals as goal

pub loop-t-init : goal.loop-t-init
unfolding any_below
loop-t-init c = refl

pub loop-t-preserved : goal.loop-t-preserved
unfolding any_below
loop-t-preserved c =
    let l = c.loop-t in
    let a = c.args in
    let x = get_or a.marks.now (32 * a.h + l.t) 0 in
    let on = active_in a.who l.t in
    rw (add-one, c.max-greatest.ensures, c.choose.ensures, c.active.ensures)
    (greatest l.greatest (cond on x 0) ∙ ap₂ (λ (p q : Bool). cond p true q) (chosen on x) l.invariant)

pub returns : goal.returns
returns c =
    let e : c.loop-t.t ≡ 32 = omega arith in
    c.loop-t.invariant ∙ rw e
