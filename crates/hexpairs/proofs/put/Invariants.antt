-- The bytes of the pairs that are left, put after those that are written, make the bytes of all.
use mathlib.Core.Path.{◌≡◌}
use mathlib.Core.Bool.{true}
use Prim.Native.Nat.{◌+◌, ◌*◌, ◌-◌}
use lib.ListN.{length, drop}
use lib.Seq.{sets}
use Rattle.hexpairs.specs.Pairs.{pairs, spelled}
use Rattle.hexpairs.proofs.put.Given as goal

abbrev pub invariant-loop-i : goal.invariant-loop-i
invariant-loop-i l =
    (length l.out ≡ length l.initial.out)
    × (pairs (l.count - l.i) (drop (l.at + 2 * l.i) l.text) ≡ true)
    × (sets l.out (l.n + l.i) (spelled (l.count - l.i) (drop (l.at + 2 * l.i) l.text)) ≡ sets l.initial.out l.n (spelled l.count (drop l.at l.text)))
