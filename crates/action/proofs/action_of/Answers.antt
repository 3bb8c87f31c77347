use Rattle.std.proofs.Common.{rules, ℕ, refl}
use Rattle.isa.specs.declared.operand.Ternary.{Ternary}
use Rattle.isa.specs.declared.instruction.Instruction.{Instruction}
use Rattle.machine.specs.Meaning.{meaning_of, input}
use Rattle.action.specs.Acts.{Narrow, Acts, writes_by, product_for}
use Rattle.operations.specs.declared.Operation.{Operation}
use Rattle.action.proofs.action_of.Goals as goal

multiplies : (o : Ternary) (S N As Bs Cs shift k : ℕ) → Narrow (Instruction.Imadd o S N As Bs Cs shift k)
    → Acts (writes_by o.d (input o.a) (input o.b) (input o.c) (Operation.Imadd (product_for o S N As Bs Cs shift)))
    (Instruction.Imadd o S N As Bs Cs shift k)
unfolding meaning_of
multiplies o S N As Bs Cs shift k narrow = let n = narrow.factors o S N As Bs Cs shift k refl in search rules

pub returns-in-Imadd : goal.returns-in-Imadd
returns-in-Imadd c =
    rw (c.ternary.ensures, c.plain_product.ensures, c.in-Imadd.is)
    (multiplies _ _ _ _ _ _ _ _ (rw c.in-Imadd.is at c.requires))
