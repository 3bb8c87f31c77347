use mathlib.Core.Path.{◌≡◌}
use Prim.Native.Nat.{◌*◌}
use lib.ListN.{length, drop}
use lib.Seq.{sets}
use Rattle.words.specs.Spelling.{bytes_for}
use Rattle.words.proofs.store.Given as goal

abbrev pub invariant-loop-i : goal.invariant-loop-i
invariant-loop-i l =
    (length l.bytes ≡ length l.initial.bytes) × (sets l.bytes (4 * l.i) (bytes_for (drop l.i l.words)) ≡ sets l.initial.bytes 0 (bytes_for l.words))
