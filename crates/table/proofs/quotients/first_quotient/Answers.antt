-- `table::quotients::first_quotient` meets its contract.
use Rattle.table.proofs.QuotientLaws.{looked_through, quotient_met, another_met}
use Rattle.table.proofs.quotients.first_quotient.Goals as goal

pub returns-then-words-place-eq-QUOTIENT : goal.returns-then-words-place-eq-QUOTIENT
returns-then-words-place-eq-QUOTIENT c = quotient_met c.loop-p.invariant c.loop-p-test.true c.if-words-place-eq-QUOTIENT.true

pub loop-p-preserved : goal.loop-p-preserved
loop-p-preserved c = another_met c.loop-p.invariant c.loop-p-test.true c.if-words-place-eq-QUOTIENT.false

pub returns : goal.returns
returns c = looked_through c.loop-p.invariant c.loop-p-test.false
