-- The words still to come, put after those that stand there, make all the words.
use mathlib.Core.Path.{◌≡◌}
use Prim.Native.Nat.{◌*◌}
use lib.ListN.{length, drop}
use lib.Seq.{sets}
use Rattle.words.specs.Spelling.{words_of}
use Rattle.words.proofs.load.Given as goal

abbrev pub invariant-loop-i : goal.invariant-loop-i
invariant-loop-i l =
    (length l.words ≡ length l.initial.words) × (sets l.words l.i (words_of (drop (4 * l.i) l.bytes)) ≡ sets l.initial.words 0 (words_of l.bytes))
