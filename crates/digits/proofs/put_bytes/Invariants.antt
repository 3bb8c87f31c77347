-- The digits of the bytes that are left, put after those that are written, make the digits of all.
use mathlib.Core.Path.{◌≡◌}
use Prim.Native.Nat.{◌+◌, ◌*◌}
use lib.ListN.{length, drop}
use lib.Seq.{sets}
use Rattle.digits.specs.Digits.{hex_bytes}
use Rattle.digits.proofs.put_bytes.Given as goal

abbrev pub invariant-loop-i : goal.invariant-loop-i
invariant-loop-i l =
    (length l.text ≡ length l.initial.text)
    × (sets l.text (l.n + 2 * l.i) (hex_bytes (drop l.i l.bytes)) ≡ sets l.initial.text l.n (hex_bytes l.bytes))
