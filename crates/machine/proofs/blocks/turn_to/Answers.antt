-- `machine::blocks::turn_to` meets its contract.
use Rattle.machine.proofs.CrossLaws.{sticks_on}
use Rattle.machine.proofs.blocks.turn_to.Goals as goal

pub returns-in_err-branch : goal.returns-in_err-branch
returns-in_err-branch c = rw c.in_err-branch.was (sticks_on c.from_residual.ensures.1)

pub returns : goal.returns
returns c = rw c.in_ok-branch.was (rw c.raised.ensures at c.branch_to.ensures)
