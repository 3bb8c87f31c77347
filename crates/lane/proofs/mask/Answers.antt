use Prim.Native.Nat.{ℕ, ◌+◌, ◌^◌}
use mathlib.Core.Path.{◌≡◌, refl, ap, ap₂, ◌∙◌}
use mathlib.Core.Bool.{Bool, cond}
use native.Mathlib.Omega.{arith}
use native.Mathlib.Numerals.{add-one}
use Rattle.machine.specs.Lanes.{pack}
use Rattle.lane.proofs.OneBit.{bit_below}
use Rattle.lane.proofs.mask.Goals as goal

pub loop-t-init : goal.loop-t-init
unfolding pack
loop-t-init g c = (omega arith, λ p h. refl)

pub loop-t-preserved : goal.loop-t-preserved
unfolding pack
loop-t-preserved g c =
    let l = c.loop-t in (
      rw c.bit-mask.ensures (bit_below l.mask l.t c.f.result l.invariant.0),
      λ p h.
          let on = ap (λ (b : Bool). cond b (2 ^ l.t) 0) (h l.t c.f.result (omega arith) c.f.ensures) in
          rw add-one (ap₂ (λ (x y : ℕ). x + y) (l.invariant.1 p h) (c.bit-mask.ensures ∙ on)),
    )

pub returns : goal.returns
returns g c = λ p h. let e : c.loop-t.t ≡ 32 = omega arith in c.loop-t.invariant.1 p h ∙ rw e
