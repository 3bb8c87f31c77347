use mathlib.Core.Path.{◌≡◌, refl, ◌∙◌}
use native.Mathlib.Omega.{arith}
use native.Mathlib.Numerals.{add-one}
use lib.ListN.{length-set}
use Rattle.machine.specs.Lanes.{each}
use Rattle.lanes.specs.Results.{word_lane}
use Rattle.lanes.proofs.results.put.Goals as goal

pub loop-t-init : goal.loop-t-init
unfolding each
loop-t-init c = (refl, refl)

pub loop-t-preserved : goal.loop-t-preserved
unfolding each word_lane
loop-t-preserved c =
    (simp length-set c.loop-t.invariant.0, rw (add-one, ← c.loop-t.invariant.1, c.choose.ensures, c.active.ensures))

pub returns : goal.returns
returns c =
    let e : c.loop-t.t ≡ 32 = omega arith in
    c.loop-t.invariant.1 ∙ rw e
