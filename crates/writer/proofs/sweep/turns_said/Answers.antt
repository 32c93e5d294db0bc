-- `writer::sweep::turns_said` meets its contract.
use borrow.Author.Tests.{eq-eqb, ne_eqb}
use Rattle.sheet.specs.Rows.{while_kind}
use Rattle.writer.proofs.sweep.turns_said.Goals as goal

pub returns-then-opened-eq-WHILE : goal.returns-then-opened-eq-WHILE
returns-then-opened-eq-WHILE c = rw (eq-eqb _ while_kind c.if-opened-eq-WHILE.true)

pub returns-else-opened-eq-WHILE : goal.returns-else-opened-eq-WHILE
returns-else-opened-eq-WHILE c = rw (ne_eqb _ while_kind c.if-opened-eq-WHILE.false)
