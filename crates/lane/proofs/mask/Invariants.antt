-- The mask has the bits of the threads passed.
use Prim.Native.Nat.{ℕ, ◌^◌, ◌<◌}
use mathlib.Core.Path.{◌≡◌}
use mathlib.Core.Bool.{Bool}
use Rattle.machine.specs.Lanes.{pack}
use Rattle.lane.proofs.mask.Given as goal

abbrev pub invariant-loop-t : goal.invariant-loop-t
invariant-loop-t g l =
    (l.mask < 2 ^ l.t)
    × ((p : ℕ → Bool) → ((t : ℕ) (on : Bool) → t < 32 → goal.F-post g l.f t on → on ≡ p t) → l.mask ≡ pack l.t p)
