-- Eight bytes at the start of a buffer that has them.
use mathlib.Core.Path.{ap}
use mathlib.Core.List.{List, ◌++◌}
use Prim.Native.Nat.{ℕ}
use lib.ListN.{length, drop}
use borrow.Author.Tests.{le-leb, lt-leb}
use Rattle.hexcalls.proofs.tell.Goals as goal

pub returns-in_default : goal.returns-in_default
returns-in_default c = rw (lt-leb 8 (length c.args.row.now) c.in_default.ensures.cases)

pub returns-in-Some : goal.returns-in-Some
returns-in-Some c =
    rw (le-leb 8 (length c.args.row.now) c.in-Some.ensures.cases.enough)
    (ap (λ (s : List ℕ). s ++ drop 8 c.args.row.now) c.bytes_of.ensures)
