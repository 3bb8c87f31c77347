use Rattle.std.proofs.Common.{ℤ, ap, ◌∙◌}
use Rattle.machine.specs.Integer.{modulo, ◌>>◌}
use Rattle.machine.specs.Meaning.{extended, shift_amount, asr}
use Rattle.signs.proofs.Modulo.{extended_reads}
use Rattle.signs.proofs.asr.Goals as goal

pub returns : goal.returns
unfolding extended asr
returns c =
    let a = c.args in
    let p = c.requires in
    let x = c.extend in
    let e = extended_reads a.a a.size x.result p.0 p.1 x.ensures in
    λ _. c.shift_signed.ensures ∙ ap (λ (z : ℤ). modulo (z >> shift_amount a.b) 64) e
