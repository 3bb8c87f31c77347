-- The threads passed are written.
use mathlib.Core.Path.{◌≡◌}
use lib.ListN.{length}
use Rattle.machine.specs.Lanes.{each}
use Rattle.lanes.specs.Results.{word_lane}
use Rattle.lanes.proofs.results.put.Given as goal

abbrev pub invariant-loop-t : goal.invariant-loop-t
invariant-loop-t l =
    (length l.registers ≡ length l.initial.registers) × (l.registers ≡ each l.t (word_lane l.row l.mask l.r) l.initial.registers)
