-- The rows that are left, put after those that are written, make the whole text.
use mathlib.Core.Path.{◌≡◌}
use Prim.Native.Nat.{◌+◌, ◌*◌, ◌-◌}
use lib.ListN.{length}
use lib.Seq.{sets}
use Rattle.std.specs.Slice.Iter.{chunks_rest, chunks_size}
use Rattle.hexwrite.specs.Write.{hex_of}
use Rattle.hexwrite.proofs.Written.{rows_all}
use Rattle.hexwrite.proofs.put_rows.Given as goal

abbrev pub invariant-loop-i : goal.invariant-loop-i
invariant-loop-i l =
    goal.iterator-loop-i.can_next l.i-iterator
    × goal.iterator-loop-i.is_finite l.i-iterator
    × (chunks_size l.i-iterator.iter ≡ 16)
    × (length (chunks_rest l.i-iterator.iter) ≡ length l.code - 16 * l.i-iterator.count)
    × (length l.text ≡ length l.initial.text)
    × (l.n + length (rows_all (16 * l.i-iterator.count) (chunks_rest l.i-iterator.iter)) ≡ length (hex_of l.code))
    × (sets l.text l.n (rows_all (16 * l.i-iterator.count) (chunks_rest l.i-iterator.iter)) ≡ sets l.initial.text 0 (hex_of l.code))
