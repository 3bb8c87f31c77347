-- Each arm makes the row of its case of the input; where there is nothing to read, the row is not touched.
use Prim.Native.Nat.{◌+◌, ◌*◌}
use mathlib.Core.Path.{refl}
use Rattle.machine.specs.Words.{word_at, value_of}
use Rattle.lanes.proofs.Bounds.{row_made}
use Rattle.lanes.proofs.sources.input.Goals as goal

pub returns-in-Nothing : goal.returns-in-Nothing
returns-in-Nothing c = rw c.in-Nothing.is (refl, λ n. absurd (n refl))

pub returns-in-Operand : goal.returns-in-Operand
unfolding value_of
returns-in-Operand c = rw c.in-Operand.is (c.source.ensures.0, λ n. c.source.ensures.1)

pub returns-in-Special : goal.returns-in-Special
unfolding value_of
returns-in-Special c =
    let r = row_made (word_at c.args.specials.now c.in-Special.k) 32 c.words.result c.words.ensures
    (λ t. (c.type_inv.specials (32 * c.in-Special.k + t)).fits) in
    rw c.in-Special.is (r.0, λ n. r.1)
