use mathlib.Core.Path.{ap, ◌∙◌}
use Prim.Native.Nat.{ℕ, ◌+◌, ◌*◌}
use lib.ListN.{length}
use Rattle.isa.proofs.Placed.{place_below}
use Rattle.lines.specs.Line.{tail_at}
use Rattle.listing.proofs.line.line_length.Goals as goal

pub line_length-requires : goal.line_length-requires
line_length-requires c = (rw c.place.ensures (place_below c.args.i), c.requires)

pub returns : goal.returns
returns c =
    (c.line_length.ensures.0 ∙ ap (λ (p : ℕ). 5 + 2 * c.args.k + length (tail_at p)) c.place.ensures, c.line_length.ensures.1)
