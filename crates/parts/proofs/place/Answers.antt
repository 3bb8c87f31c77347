-- Kinds count from 1.
use mathlib.Core.Path.{ap}
use native.Mathlib.Omega.{arith}
use Rattle.isa.specs.declared.parts.Parts.{Parts}
use Rattle.isa.proofs.Placed.{kind_within}
use Rattle.parts.proofs.place.Goals as goal

pub overflow_sub-result : goal.overflow_sub-result
overflow_sub-result c =
    let e = ap (λ (p : Parts). p.kind) c.parts_of-p.ensures in
    omega (arith, kind_within c.args.i)
