-- The loop writes line by line: what is left, put after what is written, makes the whole listing.
use mathlib.Core.Path.{◌≡◌}
use Prim.Native.Nat.{◌+◌, ◌-◌, ◌≤◌}
use lib.ListN.{length}
use Rattle.walk.specs.Walk.{limit}
use Rattle.listing.specs.Listing.{listing_of}
use lib.Seq.{sets}
use Rattle.listing.proofs.Left.{left}
use Rattle.listing.proofs.text.write.Given as goal

abbrev pub invariant-loop-at : goal.invariant-loop-at
invariant-loop-at l =
    (l.at ≤ limit) × (l.at ≤ length l.code) × (length l.text ≡ length l.initial.text) × (l.n + length (left l.code l.at) ≡ length (listing_of l.code))
    × (sets l.text l.n (left l.code l.at) ≡ sets l.initial.text 0 (listing_of l.code))

abbrev pub decreases-loop-at : goal.decreases-loop-at
decreases-loop-at l = length l.code - l.at
