-- `runner::block_row` meets its contract.
use Rattle.machine.proofs.RowLaws.{of_known}
use Rattle.machine.proofs.CrossLaws.{block_leaves, block_crosses, block_asks}
use Rattle.runner.proofs.block_row.Goals as goal

pub returns-in-Out : goal.returns-in-Out
returns-in-Out g c =
    block_leaves c.block_at.ensures c.in-Out.is

pub returns-in-Other : goal.returns-in-Other
returns-in-Other g c =
    block_crosses c.block_at.ensures c.in-Other.is (of_known g.N.Number.known c.cross.ensures)

pub returns-in-Ask : goal.returns-in-Ask
returns-in-Ask g c =
    block_asks c.block_at.ensures c.in-Ask.is c.test-branch.ensures (of_known g.N.Number.known c.ask_row.ensures)
