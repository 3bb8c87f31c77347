-- The comparison of two kernels: both are walked from address 0, side by side, until one walk is refused, one ends, or they differ.
-- Follows the change request "The two-kernel comparison" and docs/DECISIONS.md, entry 73.
use Rattle.std.specs.Prelude.{ℕ, cond, Option, Some, None, List, leb, length}
use Rattle.isa.specs.Refusal.{refusal}
use Rattle.walk.specs.Walk.{Walk, ended, refused, stepped, walk_of, limit}
use Rattle.comparison.specs.Order.{difference_of}
use Rattle.comparison.specs.declared.Field.{Field}
use Rattle.comparison.specs.declared.Kernel.{Kernel}
use Rattle.comparison.specs.declared.Comparison.{Comparison}

-- at an address, a difference is the answer; without one the walks go on
abbrev pub or_else : Option Field → ℕ → Comparison → Comparison
or_else (Some f) at further = Comparison.Differs at f
or_else None at further = further

-- the walk of the first kernel and that of the second. A refusal of either is the answer, the first kernel's if both are refused, even
-- if the other has ended
unfoldable pub between : Walk → Walk → Comparison
between (refused at r) w = Comparison.Refused at r Kernel.First
between (ended at) (refused b r) = Comparison.Refused b r Kernel.Second
between (ended at) (ended b) = Comparison.Same
between (ended at) (stepped b t j w) = Comparison.Ended at Kernel.First
between (stepped at s i v) (refused b r) = Comparison.Refused b r Kernel.Second
between (stepped at s i v) (ended b) = Comparison.Ended b Kernel.Second
between (stepped at s i v) (stepped b t j w) = or_else (difference_of i (length s) j (length t)) at (between v w)

-- a kernel of more than 8,192 bytes is refused with 1 at address 0, before the walks
unfoldable pub compare_of : List ℕ → List ℕ → Comparison
compare_of first second =
    cond (leb (length first) limit)
    (cond (leb (length second) limit)
    (between (walk_of first) (walk_of second))
    (Comparison.Refused 0 (refusal 1) Kernel.Second))
    (Comparison.Refused 0 (refusal 1) Kernel.First)
