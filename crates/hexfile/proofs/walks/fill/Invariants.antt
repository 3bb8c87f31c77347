-- The bytes of the rows so far stand at the start of the buffer; at the end row they are the kernel.
use mathlib.Core.Path.{◌≡◌}
use Prim.Native.Nat.{ℕ, ◌-◌, ◌≤◌}
use lib.ListN.{length}
use lib.Seq.{sets}
use Rattle.hexfile.proofs.Steps.{Known}
use Rattle.hexfile.proofs.walks.fill.Given as goal

abbrev pub invariant-loop-at : goal.invariant-loop-at
invariant-loop-at l =
    (l.at ≤ length l.text) × (l.n ≤ l.at) × (length l.out ≡ length l.initial.out)
    × ((row : ℕ) × (w : Known l.text l.at row l.n) × (l.out ≡ sets l.initial.out 0 w.code))

abbrev pub decreases-loop-at : goal.decreases-loop-at
decreases-loop-at l = length l.text - l.at
