-- Five characters of address, two for each byte, and the end of the line.
use mathlib.Core.Path.{ap}
use Prim.Native.Nat.{ℕ, ◌+◌, ◌*◌}
use native.Mathlib.Omega.{arith}
use Rattle.lines.proofs.line_length.Goals as goal

pub returns : goal.returns
returns c = (ap (λ (x : ℕ). 5 + 2 * c.args.k + x) c.tail_length.ensures.0, omega arith)
