-- Both readers have the code that they were made with, and what is still to walk compares as the whole codes do.
use Rattle.std.proofs.Common.{◌≡◌, length, ◌-◌}
use Rattle.compare.proofs.Going.{Place}
use Rattle.compare.proofs.side_by_side.Given as goal

abbrev pub invariant-loop-n : goal.invariant-loop-n
invariant-loop-n l = (l.a.code.now ≡ l.first) × (l.b.code.now ≡ l.second) × Place l.first l.second l.a.address l.b.address

abbrev pub decreases-loop-n : goal.decreases-loop-n
decreases-loop-n l = length l.first - l.a.address
