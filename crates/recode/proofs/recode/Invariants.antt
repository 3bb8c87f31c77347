-- The loop writes the code up to the address, instruction by instruction; what was decoded and encoded again is what it was.
use mathlib.Core.Path.{◌≡◌}
use Prim.Native.Nat.{◌-◌, ◌≤◌}
use lib.ListN.{length}
use Rattle.recode.proofs.Steps.{done}
use Rattle.recode.proofs.recode.Given as goal

abbrev pub invariant-loop-i : goal.invariant-loop-i
invariant-loop-i l = (l.out ≡ done l.code l.initial.out l.at) × (l.at ≤ length l.code) × (length l.out ≡ length l.initial.out)

abbrev pub decreases-loop-i : goal.decreases-loop-i
decreases-loop-i l = length l.code - l.at
