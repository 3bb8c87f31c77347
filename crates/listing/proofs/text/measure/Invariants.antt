-- The loop adds up the lengths of the lines: the length so far and that of what is left make the length of the listing.
use mathlib.Core.Path.{◌≡◌}
use Prim.Native.Nat.{◌+◌, ◌*◌, ◌-◌, ◌≤◌}
use lib.ListN.{length}
use Rattle.walk.specs.Walk.{limit}
use Rattle.listing.specs.Listing.{listing_of}
use Rattle.listing.proofs.Left.{left}
use Rattle.listing.proofs.text.measure.Given as goal

abbrev pub invariant-loop-at : goal.invariant-loop-at
invariant-loop-at l =
    (l.at ≤ limit) × (l.at ≤ length l.code) × (l.n ≤ 36 * l.at) × (l.n + length (left l.code l.at) ≡ length (listing_of l.code))

abbrev pub decreases-loop-at : goal.decreases-loop-at
decreases-loop-at l = length l.code - l.at
