-- The threads passed have what f computes.
use Prim.Native.Nat.{ℕ, ◌<◌}
use mathlib.Core.Path.{◌≡◌}
use lib.ListN.{length, get_or}
use Rattle.machine.specs.Step.{source_at}
use Rattle.alu.proofs.rows.each.Given as goal

abbrev pub invariant-loop-t : goal.invariant-loop-t
invariant-loop-t g l =
    (length l.out ≡ 32)
    × ((t : ℕ) → t < l.t → goal.F-post g l.f (source_at l.sources 0 t) (source_at l.sources 1 t) (source_at l.sources 2 t) (get_or l.out t 0))
