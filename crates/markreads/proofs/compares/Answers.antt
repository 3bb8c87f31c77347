use Rattle.markreads.proofs.compares.Goals as goal

pub returns-in-IfIcmp : goal.returns-in-IfIcmp
returns-in-IfIcmp c = rw c.in-IfIcmp.is

pub returns-in-WhileIcmp : goal.returns-in-WhileIcmp
returns-in-WhileIcmp c = rw (c.in-WhileIcmp.is, c.from.ensures)

pub returns-in-ElseIcmp : goal.returns-in-ElseIcmp
returns-in-ElseIcmp c = rw c.in-ElseIcmp.is
