-- Those to come, set in what the halves passed have left.
use Prim.Native.Nat.{◌+◌, ◌-◌}
use mathlib.Core.Path.{◌≡◌}
use Rattle.machine.specs.Marks.{halves_from}
use Rattle.marksets.specs.Sets.{halves_set}
use Rattle.marksets.proofs.halves.Given as goal

abbrev pub invariant-loop-i : goal.invariant-loop-i
invariant-loop-i l =
    halves_set (halves_from l.h l.n) l.who l.v l.initial.marks ≡ halves_set (halves_from l.i (l.h + l.n - l.i)) l.who l.v l.marks
