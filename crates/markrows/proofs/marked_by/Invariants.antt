-- The greatest of the marks passed, of the threads looked at, is 0 where none of them is set.
use mathlib.Core.Path.{◌≡◌}
use mathlib.Core.Bool.{not}
use lib.Dec.{eqb}
use Rattle.machine.specs.Lanes.{active_in, any_below}
use Rattle.machine.specs.Meaning.{both}
use Rattle.machine.specs.Marks.{marked_in}
use Rattle.markrows.proofs.marked_by.Given as goal

abbrev pub invariant-loop-t : goal.invariant-loop-t
invariant-loop-t l = not (eqb l.greatest 0) ≡ any_below l.t (λ u. both (active_in l.who u) (marked_in l.marks u l.h))
