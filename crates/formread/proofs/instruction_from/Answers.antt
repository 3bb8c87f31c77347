use mathlib.Core.Path.{◌≡◌, ap}
use native.Mathlib.Omega.{arith}
use Rattle.isa.specs.declared.instruction.Instruction.{Instruction}
use Rattle.formread.specs.Read.{instruction_from}
use Rattle.formread.proofs.instruction_from.Goals as goal

pub returns-in-3 : goal.returns-in-3
unfolding instruction_from
returns-in-3 c = rw c.in-3.is c.get_sr_from.ensures

pub returns-in_default : goal.returns-in_default
unfolding instruction_from
returns-in_default c =
    let last : c.args.kind ≡ 22 = omega arith in
    rw last (ap Instruction.ElseIcmp c.compare_from-in_default.ensures)
