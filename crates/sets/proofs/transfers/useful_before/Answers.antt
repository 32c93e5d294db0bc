-- `sets::transfers::useful_before` meets its contract: the code's branch is the definition's.
use mathlib.Core.Path.{sym}
use Rattle.sets.proofs.OperationLaws.{useful_said}
use Rattle.sets.proofs.transfers.useful_before.Goals as goal

pub returns-then-has : goal.returns-then-has
returns-then-has c b performs =
    rw (useful_said b performs _, sym c.has.ensures, c.if-has.true, c.without.ensures)
    (rw (c.reads.ensures b performs))

pub returns-else-has : goal.returns-else-has
returns-else-has c b performs = rw (useful_said b performs _, sym c.has.ensures, c.if-has.false)
