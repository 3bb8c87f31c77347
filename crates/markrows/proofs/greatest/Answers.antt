use mathlib.Core.Path.{◌≡◌, refl, ap, ◌∙◌}
use mathlib.Core.Bool.{Bool, true, cond, not}
use native.Mathlib.Omega.{arith}
use native.Mathlib.Numerals.{add-one}
use lib.Dec.{eqb}
use lib.ListN.{length, get_or}
use Rattle.machine.specs.Lanes.{any_below}
use Rattle.markrows.proofs.Setting.{greatest, twice_not}
use Rattle.markrows.proofs.greatest.Goals as goal

pub loop-mark-init : goal.loop-mark-init
unfolding any_below
loop-mark-init c = refl

pub loop-mark-preserved : goal.loop-mark-preserved
unfolding any_below
loop-mark-preserved c =
    let l = c.loop-mark in
    let x = get_or c.args.marks.now l.mark-index 0 in
    rw (add-one, c.max-greatest.ensures) (greatest l.greatest x ∙ ap (λ (b : Bool). cond (not (eqb x 0)) true b) l.invariant)

pub returns : goal.returns
returns c =
    let l = c.loop-mark in
    let e : l.mark-index ≡ length c.args.marks.now = omega arith in
    twice_not (eqb l.greatest 0) ∙ ap not l.invariant ∙ rw e
