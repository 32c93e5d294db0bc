-- `machine::turns::put_away` meets its contract.
use Rattle.machine.proofs.RowLaws.{puts_none, puts_on}
use borrow.Author.Rules.{rules}
use Rattle.machine.proofs.turns.put_away.Goals as goal

pub returns-then-turns-height : goal.returns-then-turns-height
returns-then-turns-height c = puts_none c.if-turns-height.true

pub returns : goal.returns
returns c = puts_on (search rules)
