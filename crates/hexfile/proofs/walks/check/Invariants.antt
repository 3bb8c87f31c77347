-- The rows so far hold as many bytes as are counted; the row at hand goes on, or decides.
use Prim.Native.Nat.{◌+◌, ◌-◌, ◌≤◌}
use lib.ListN.{length}
use Rattle.hexfile.proofs.Steps.{Known}
use Rattle.hexfile.proofs.walks.check.Given as goal

abbrev pub invariant-loop-at : goal.invariant-loop-at
invariant-loop-at l = (l.at ≤ length l.text) × (l.n ≤ l.at) × (l.row ≤ l.at + 1) × Known l.text l.at l.row l.n

abbrev pub decreases-loop-at : goal.decreases-loop-at
decreases-loop-at l = length l.text - l.at
