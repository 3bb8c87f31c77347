use Rattle.std.proofs.Common.{ℕ, ◌-◌, ◌*◌, ◌%◌, ◌^◌, ℤ, ap, ◌∙◌, arith}
use Rattle.machine.specs.Integer.{modulo, sign_extend, ◌>>◌}
use Rattle.machine.specs.Meaning.{extended, shift_amount, asrh}
use Rattle.signs.proofs.Modulo.{extended_reads}
use Rattle.signs.proofs.Shifts.{up_left, down_left}
use Rattle.signs.proofs.asrh.Goals as goal

pub returns-then-amount-lt32 : goal.returns-then-amount-lt32
unfolding extended asrh
returns-then-amount-lt32 c =
    let a = c.args in
    λ _.
    ap (λ (x : ℕ). x * 2 ^ (32 - shift_amount a.b) % 2 ^ 64) c.extend-x.ensures
    ∙ up_left (sign_extend a.a a.size) (shift_amount a.b) (omega arith)

pub returns-else-amount-lt32 : goal.returns-else-amount-lt32
unfolding extended asrh
returns-else-amount-lt32 c =
    let a = c.args in
    let p = c.requires in
    let x = c.extend-x in
    let e = extended_reads a.a a.size x.result p.0 p.1 x.ensures in
    λ _.
    c.shift_signed.ensures
    ∙ ap (λ (z : ℤ). modulo (z >> (shift_amount a.b - 32)) 64) e
    ∙ ap (λ (z : ℤ). modulo z 64) (down_left (sign_extend a.a a.size) (shift_amount a.b) c.if-amount-lt32.false)
