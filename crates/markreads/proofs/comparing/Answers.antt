use Prim.Native.Nat.{◌+◌, ◌*◌}
use mathlib.Core.Path.{◌≡◌}
use native.Mathlib.Omega.{arith}
use Rattle.std.proofs.Common.{rules}
use Rattle.machine.specs.Words.{half_of, word_at}
use Rattle.operations.specs.Operation.{compares_by}
use Rattle.markreads.proofs.comparing.Goals as goal

pub returns : goal.returns
returns c =
    c.mask.ensures (λ t. compares_by c.args.operation (half_of 0 (word_at c.args.registers.now 0 t)))
    (λ t on h p. let e : 32 * 0 + t ≡ t = omega arith in search rules)
