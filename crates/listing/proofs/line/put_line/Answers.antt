use mathlib.Core.Path.{◌≡◌, ap, ◌∙◌}
use Prim.Native.Nat.{ℕ}
use native.Mathlib.Omega.{arith}
use lib.ListN.{length}
use lib.Seq.{sets}
use Rattle.isa.specs.Parts.{place_of}
use Rattle.isa.proofs.Placed.{place_below}
use Rattle.lines.specs.Line.{tail_at, line_at}
use Rattle.listing.proofs.line.put_line.Goals as goal

pub put_line-requires : goal.put_line-requires
put_line-requires c =
    let l : length (tail_at c.place.result) ≡ length (tail_at (place_of c.args.i)) = ap (λ (p : ℕ). length (tail_at p)) c.place.ensures in
    (omega arith, omega arith, rw c.place.ensures (place_below c.args.i))

pub returns : goal.returns
returns c =
    c.put_line.ensures
    ∙ ap (λ (q : ℕ). sets c.args.text.now c.args.n (line_at c.args.at c.args.bytes.now q)) c.place.ensures
