-- The sum so far and that of the bytes that are left make the sum of all.
use mathlib.Core.Path.{◌≡◌}
use Prim.Native.Nat.{◌+◌, ◌%◌}
use lib.ListN.{drop}
use Rattle.hexpairs.specs.Pairs.{total}
use Rattle.hexwrite.proofs.row.sum_of.Given as goal

abbrev pub invariant-loop-byte : goal.invariant-loop-byte
invariant-loop-byte l = (l.sum + total (drop l.byte-index l.bytes)) % 256 ≡ total l.bytes % 256
