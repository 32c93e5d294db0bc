-- `sets::transfers::varied_after` meets its contract: the code's branch is the definition's.
use mathlib.Core.Path.{sym}
use Rattle.sets.proofs.OperationLaws.{varied_said}
use Rattle.sets.proofs.transfers.varied_after.Goals as goal

pub returns-then-any_read : goal.returns-then-any_read
returns-then-any_read c b performs = rw (varied_said b performs _, sym (c.any_read.ensures b performs), c.if-any_read.true, c.single.ensures)

pub returns-else-any_read : goal.returns-else-any_read
returns-else-any_read c b performs = rw (varied_said b performs _, sym (c.any_read.ensures b performs), c.if-any_read.false, c.without.ensures)
