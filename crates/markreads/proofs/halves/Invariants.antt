-- No half passed is marked: those to come say it.
use Prim.Native.Nat.{◌+◌, ◌-◌}
use mathlib.Core.Path.{◌≡◌}
use Rattle.machine.specs.Marks.{halves_from}
use Rattle.markreads.specs.Marked.{halves_marked}
use Rattle.markreads.proofs.halves.Given as goal

abbrev pub invariant-loop-i : goal.invariant-loop-i
invariant-loop-i l =
    halves_marked l.marks l.who (halves_from l.h l.n) ≡ halves_marked l.marks l.who (halves_from l.i (l.h + l.n - l.i))
