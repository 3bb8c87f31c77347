-- The sum so far and that of the pairs that are left make the sum of all; as long as all are digits, the pairs that are left decide.
use mathlib.Core.Path.{◌≡◌}
use Prim.Native.Nat.{◌+◌, ◌*◌, ◌-◌, ◌%◌}
use lib.ListN.{drop}
use Rattle.hexpairs.specs.Pairs.{pairs, spelled, total}
use Rattle.hexpairs.proofs.sum.Given as goal

abbrev pub invariant-loop-i : goal.invariant-loop-i
invariant-loop-i l =
    (pairs (l.n - l.i) (drop (l.at + 2 * l.i) l.text) ≡ pairs l.n (drop l.at l.text))
    × ((l.sum + total (spelled (l.n - l.i) (drop (l.at + 2 * l.i) l.text))) % 256 ≡ total (spelled l.n (drop l.at l.text)) % 256)
