-- `machine::blocks::branch_to` meets its contract.
use Rattle.machine.proofs.blocks.branch_to.Goals as goal

pub returns-in-First : goal.returns-in-First
returns-in-First c = rw c.in-First.is

pub returns-in-Second : goal.returns-in-Second
returns-in-Second c = rw c.in-Second.is c.jump.ensures
