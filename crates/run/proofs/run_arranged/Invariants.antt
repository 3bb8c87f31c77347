-- Each turn is a step of the run: what is still to run leaves what the whole run leaves, and where the loop is left nothing is. The cache
-- holds plans of the code.
use mathlib.Core.Path.{◌≡◌}
use mathlib.Core.Bool.{true}
use Prim.Native.Nat.{◌-◌}
use Rattle.marks.specs.Settled.{AllClear}
use Rattle.run.specs.Ran.{call_of}
use Rattle.run.specs.Cache.{Cached}
use Rattle.run.proofs.Turns.{OnWay}
use Rattle.run.proofs.run_arranged.Given as goal

abbrev pub invariant-loop-address : goal.invariant-loop-address
invariant-loop-address l =
    OnWay (call_of l.code l.initial.registers l.initial.marks l.uniforms l.specials l.start l.mask l.budget l.initial.records) l.registers l.marks l.records l.address l.active l.steps
    × Cached l.code l.cache × (l.quiet ≡ true → AllClear l.marks)

abbrev pub decreases-loop-address : goal.decreases-loop-address
decreases-loop-address l =
    l.budget - l.steps
