use Rattle.std.proofs.Common.{◌≡◌, None, Some, refl, arith}
use Rattle.isa.specs.declared.instruction.Instruction.{Instruction}
use Rattle.reading.proofs.Layouts.{if_icmp, while_icmp, else_icmp}
use Rattle.reading.proofs.read_into.Goals as goal

pub returns-in_err-read_compare-in-19 : goal.returns-in_err-read_compare-in-19
returns-in_err-read_compare-in-19 g c =
    let none : c.read_compare.result ≡ None = grind arith in
    rw (c.from_residual-in_err-read_compare-in-19.ensures, c.in-19.is, if_icmp c.args.w, ← c.read_compare.ensures Instruction.IfIcmp, none) refl

pub returns-in_ok-read_compare-in-19 : goal.returns-in_ok-read_compare-in-19
returns-in_ok-read_compare-in-19 g c =
    let some : c.read_compare.result ≡ Some c.in_ok-read_compare-in-19.field-0 = grind arith in
    rw (c.make-in-19.ensures, c.in-19.is, if_icmp c.args.w, ← c.read_compare.ensures Instruction.IfIcmp, some) refl

pub returns-in_err-read_compare-in-20 : goal.returns-in_err-read_compare-in-20
returns-in_err-read_compare-in-20 g c =
    let none : c.read_compare-in-20.result ≡ None = grind arith in
    rw (c.from_residual-in_err-read_compare-in-20.ensures, c.in-20.is, while_icmp c.args.w, ← c.read_compare-in-20.ensures Instruction.WhileIcmp, none) refl

pub returns-in_ok-read_compare-in-20 : goal.returns-in_ok-read_compare-in-20
returns-in_ok-read_compare-in-20 g c =
    let some : c.read_compare-in-20.result ≡ Some c.in_ok-read_compare-in-20.field-0 = grind arith in
    rw (c.make-in-20.ensures, c.in-20.is, while_icmp c.args.w, ← c.read_compare-in-20.ensures Instruction.WhileIcmp, some) refl

pub returns-in_err-read_compare-in_default : goal.returns-in_err-read_compare-in_default
returns-in_err-read_compare-in_default g c =
    let last : c.args.place ≡ 21 = omega arith in
    let none : c.read_compare-in_default.result ≡ None = grind arith in
    rw (c.from_residual-in_err-read_compare-in_default.ensures, last, else_icmp c.args.w, ← c.read_compare-in_default.ensures Instruction.ElseIcmp, none) refl

pub returns-in_ok-read_compare-in_default : goal.returns-in_ok-read_compare-in_default
returns-in_ok-read_compare-in_default g c =
    let last : c.args.place ≡ 21 = omega arith in
    let some : c.read_compare-in_default.result ≡ Some c.in_ok-read_compare-in_default.field-0 = grind arith in
    rw (c.make-in_default.ensures, last, else_icmp c.args.w, ← c.read_compare-in_default.ensures Instruction.ElseIcmp, some) refl
