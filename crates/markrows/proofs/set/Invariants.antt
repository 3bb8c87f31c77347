-- The threads passed are set.
use mathlib.Core.Path.{◌≡◌}
use lib.ListN.{length}
use Rattle.machine.specs.Marks.{each_mark}
use Rattle.markrows.proofs.Setting.{lane}
use Rattle.markrows.proofs.set.Given as goal

abbrev pub invariant-loop-t : goal.invariant-loop-t
invariant-loop-t l =
    (length l.marks ≡ length l.initial.marks) × (l.marks ≡ each_mark (lane l.h l.who l.v l.t) l.initial.marks)
