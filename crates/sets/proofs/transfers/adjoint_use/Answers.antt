-- `sets::transfers::adjoint_use` meets its contract: an active product's or quotient's operands, each by its fellow's being varied, and the divisor.
use Rattle.sets.proofs.OperationLaws.{use_said}
use Rattle.sets.proofs.transfers.adjoint_use.Goals as goal

pub returns-then-known-row : goal.returns-then-known-row
returns-then-known-row c b performs =
    rw (use_said b performs _, c.if-known-row.true, c.only_if-first.ensures, c.only_if-second.ensures)

pub returns-else-known-row : goal.returns-else-known-row
returns-else-known-row c b performs = rw (use_said b performs _, c.if-known-row.false)
