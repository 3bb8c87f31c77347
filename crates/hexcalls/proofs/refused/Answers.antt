use Rattle.hexcalls.proofs.refused.Goals as goal

pub returns-in-Form : goal.returns-in-Form
returns-in-Form c = rw c.in-Form.is

pub returns-in-Sum : goal.returns-in-Sum
returns-in-Sum c = rw c.in-Sum.is

pub returns-in-Order : goal.returns-in-Order
returns-in-Order c = rw c.in-Order.is
