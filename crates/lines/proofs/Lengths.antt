-- How long lines are.
use mathlib.Core.Path.{◌≡◌}
use mathlib.Core.List.{List}
use Prim.Native.Nat.{ℕ, ◌+◌, ◌*◌}
use native.Mathlib.Omega.{arith}
use lib.ListN.{length, length-append}
use Rattle.lines.specs.Line.{tail_at, line_at}
use Rattle.digits.specs.Digits.{hex_bytes}
use Rattle.digits.proofs.Digits.{length-hex_bytes}

pub length_line : (at : ℕ) (s : List ℕ) (place : ℕ) → length (line_at at s place) ≡ 5 + 2 * length s + length (tail_at place)
unfolding line_at
length_line at s place = omega (arith, length-append (hex_bytes s) (tail_at place), length-hex_bytes s)
