-- The listing is measured first: where it fits it is written at the start of the text, else the text is kept.
use Rattle.std.proofs.Common.{Ok}
use mathlib.Core.Path.{ap, ◌∙◌}
use mathlib.Core.List.{◌++◌}
use Prim.Native.Nat.{ℕ, ◌≤◌}
use native.Mathlib.Nat.{zero-add}
use native.Mathlib.Omega.{arith}
use lib.ListN.{length, drop}
use lib.Seq.{sets-eq}
use borrow.Author.Tests.{le-leb, lt-leb}
use Rattle.listing.specs.Listing.{listing_of}
use Rattle.listing.proofs.list.Goals as goal

pub returns-then-n-text : goal.returns-then-n-text
returns-then-n-text c =
    let all = listing_of c.args.code.now in
    let h : length all ≤ length c.args.text.now = omega arith in
    let t = le-leb (length all) (length c.args.text.now) h in
    let e = sets-eq all c.args.text.now 0 (omega arith) ∙ ap (λ (k : ℕ). all ++ drop k c.args.text.now) (zero-add (length all)) in
    (rw t (ap Ok c.measure-n.ensures), rw t (c.write.ensures ∙ e))

pub returns-else-n-text : goal.returns-else-n-text
returns-else-n-text c =
    let t = lt-leb (length (listing_of c.args.code.now)) (length c.args.text.now) (omega arith) in
    (rw t, rw t)
