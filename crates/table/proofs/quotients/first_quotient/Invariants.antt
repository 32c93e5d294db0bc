-- `table::quotients::first_quotient` meets its contract. The invariant: what is still to be looked through comes to what all rows come to.
use Rattle.table.proofs.QuotientLaws.{Looking}
use Rattle.table.proofs.quotients.first_quotient.Given as goal

abbrev pub invariant-loop-p : goal.invariant-loop-p
invariant-loop-p l = Looking l.words l.first l.rows l.p
