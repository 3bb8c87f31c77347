use mathlib.Core.Path.{◌≡◌, refl, ◌∙◌}
use native.Mathlib.Omega.{arith}
use native.Mathlib.Numerals.{add-one}
use lib.ListN.{length-set}
use Rattle.markrows.proofs.Setting.{set-none, set_more, set_all}
use Rattle.markrows.proofs.set.Goals as goal

pub loop-t-init : goal.loop-t-init
loop-t-init c = let a = c.args in (refl, set-none a.h a.who a.v a.marks.now)

pub loop-t-preserved : goal.loop-t-preserved
loop-t-preserved c =
    let l = c.loop-t in
    let a = c.args in (
      simp length-set l.invariant.0,
      rw (add-one, c.choose.ensures, c.active.ensures, l.invariant.1)
          (set_more a.h a.who a.v a.marks.now l.t (omega arith) (omega arith)),
    )

pub returns : goal.returns
returns c =
    let a = c.args in
    let e : c.loop-t.t ≡ 32 = omega arith in
    c.loop-t.invariant.1 ∙ rw e (set_all a.h a.who a.v a.marks.now)
