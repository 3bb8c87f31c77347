use Rattle.std.proofs.Common.{rules}
use Rattle.markreads.proofs.Laws.{of_none}
use Rattle.markreads.proofs.input.Goals as goal

pub source-requires : goal.source-requires
source-requires c = rw c.in-Operand.is at c.requires

pub returns-in-Nothing : goal.returns-in-Nothing
returns-in-Nothing c = search (rules, of_none)

pub returns-in-Operand : goal.returns-in-Operand
returns-in-Operand c = rw c.in-Operand.is c.source.ensures
