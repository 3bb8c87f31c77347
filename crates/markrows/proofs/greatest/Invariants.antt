-- The greatest of the marks passed is 0 where none of them is set.
use mathlib.Core.Path.{◌≡◌}
use mathlib.Core.Bool.{not}
use lib.Dec.{eqb}
use lib.ListN.{get_or}
use Rattle.machine.specs.Lanes.{any_below}
use Rattle.markrows.proofs.greatest.Given as goal

abbrev pub invariant-loop-mark : goal.invariant-loop-mark
invariant-loop-mark l = not (eqb l.greatest 0) ≡ any_below l.mark-index (λ j. not (eqb (get_or l.marks j 0) 0))
